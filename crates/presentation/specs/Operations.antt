-- Elementary operations on rows or columns.
--
--   undo           the change that undoes a change, made on the other axis of an inverse
--   across_update  the update that undoes an update there: what changed by the other now changes the other
--   across         the operation that undoes an operation there
--   Within         the rows or columns of an operation are among the first 32
--   changed        the new entry of a row or column, of its own x and the other one's y
--   NewEntry       an element that means the new entry, or Range: it does not fit
--   new_entry      entry k of the row or column that an update changes
--   FitUpdate      each entry that an update would write fits
--   UnfitUpdate    the fault of the first that does not
--   Fitting        all entries of an update fit, or that fault
--   Changed        a row or column has its new entries, and all else is as it was
--   Fit            each entry that an operation would write fits
--   Unfit          the fault of the first that does not
--   Made           an operation was made on a table
--   Three          what an operation is performed on: a worktable, a transform and its inverse
--   three          a worktable, and a transform with its inverse, as such
--   Performed      an operation was made on worktable and transform and undone on the inverse
--   FirstUnfit     the first entry that does not fit: in the worktable, then the transform, then the inverse
--   Performing     an operation was performed, or nothing was written
use Rattle.std.specs.Prelude.{◌≡◌, ℕ, ◌<◌, ◌⊎◌, List, Ok, Err, Result, ◌≢◌, slice_index_or}
use Rattle.algebra.specs.Ring.{sub}
use Rattle.kinds.specs.declared.ElementFault.{ElementFault}
use Rattle.kinds.specs.declared.ElementFault.TheVariants.{Range}
use Rattle.kinds.specs.Model.{Model}
use Rattle.presentation.specs.declared.fault.Table.{Table}
use Rattle.presentation.specs.declared.fault.Table.TheVariants.{Work}
use Rattle.presentation.specs.declared.fault.TableFault.{TableFault}
use Rattle.presentation.specs.declared.table.Axis.{Axis}
use Rattle.presentation.specs.declared.table.Transform.{Transform}
use Rattle.presentation.specs.declared.operation.Change.{Change}
use Rattle.presentation.specs.declared.operation.Change.TheVariants.{Scale, Add, Subtract}
use Rattle.presentation.specs.declared.operation.Update.{Update}
use Rattle.presentation.specs.declared.operation.Operation.{Operation}
use Rattle.presentation.specs.declared.operation.Operation.TheVariants.{Swap, Combine}
use Rattle.presentation.specs.Places.{place, other, transform, inverse, fault_at, meant, Swapped}

abbrev pub undo : {E : Type 0} → Change E → Change E
undo (Scale u v) = Scale v u
undo (Add q) = Subtract q
undo (Subtract q) = Add q

abbrev pub across_update : {E : Type 0} → Update E → Update E
across_update u = record { change = undo u.change; from = u.to; to = u.from }

abbrev pub across : {E : Type 0} → Operation E → Operation E
across (Swap a b) = Swap a b
across (Combine u) = Combine (across_update u)

abbrev pub Within : {E : Type 0} → Operation E → Type 0
Within (Swap a b) = (a < 32) × (b < 32)
Within (Combine u) = (u.from < 32) × (u.to < 32)

module _ {E S : Type 0} (m : Model E S) where
  abbrev pub changed : Change E → m.Member → m.Member → m.Member
  changed (Scale u v) x y = m.ring.mul (m.mean u) y
  changed (Add q) x y = m.ring.add x (m.ring.mul (m.mean q) y)
  changed (Subtract q) x y = sub m.ring x (m.ring.mul (m.mean q) y)

  abbrev pub NewEntry : m.Member → Result E ElementFault → Type 0
  NewEntry a (Ok z) = m.mean z ≡ a
  NewEntry a (Err f) = (f ≡ Range) × ¬ (m.Fits a)

  abbrev pub new_entry : Update E → Axis → List E → ℕ → m.Member
  new_entry u axis t k = changed u.change (meant m t (place axis u.to k)) (meant m t (place axis u.from k))

  abbrev pub FitUpdate : Update E → Axis → ℕ → List E → Type 0
  FitUpdate u axis len t = (k : ℕ) → k < len → m.Fits (new_entry u axis t k)

  pub record UnfitUpdate (u : Update E) (table : Table) (axis : Axis) (len : ℕ) (t : List E) (f : TableFault) : Type 0 where
    pub at : ℕ
    pub inside : at < len
    pub is : f ≡ fault_at axis table u.to at Range
    pub here : ¬ (m.Fits (new_entry u axis t at))
    pub before : FitUpdate u axis at t

  abbrev pub Fitting : Update E → Table → Axis → ℕ → List E → Result (Unit {0}) TableFault → Type 0
  Fitting u table axis len t (Ok x) = FitUpdate u axis len t
  Fitting u table axis len t (Err f) = UnfitUpdate u table axis len t f

  pub record Changed (u : Update E) (axis : Axis) (len : ℕ) (old new : List E) : Type 0 where
    pub entries : (k : ℕ) → k < len → meant m new (place axis u.to k) ≡ new_entry u axis old k
    pub others : (p : ℕ) (d : E) → ((k : ℕ) → k < len → p ≢ place axis u.to k) → slice_index_or new p d ≡ slice_index_or old p d

  abbrev pub Fit : Operation E → Axis → ℕ → List E → Type 0
  Fit (Swap a b) axis len t = Unit {0}
  Fit (Combine u) axis len t = FitUpdate u axis len t

  abbrev pub Unfit : Operation E → Table → Axis → ℕ → List E → TableFault → Type 0
  Unfit (Swap a b) table axis len t f = ⊥
  Unfit (Combine u) table axis len t f = UnfitUpdate u table axis len t f

  abbrev pub Made : Operation E → Axis → ℕ → List E → List E → Type 0
  Made (Swap a b) axis len old new = Swapped axis a b len old new
  Made (Combine u) axis len old new = Changed u axis len old new

pub record Three (E : Type 0) : Type 0 where
  pub work : List E
  pub transform : List E
  pub inverse : List E

abbrev pub three : {E : Type 0} → List E → Transform E → Three E
three w t = record { work = w; transform = t.matrix.now; inverse = t.inverse.now }

module _ {E S : Type 0} (m : Model E S) (o : Operation E) (axis : Axis) (breadth len : ℕ) where
  pub record Performed (old new : Three E) : Type 0 where
    pub work : Made m o axis breadth old.work new.work
    pub transform : Made m o axis len old.transform new.transform
    pub inverse : Made m (across o) (other axis) len old.inverse new.inverse

  abbrev pub FirstUnfit : Three E → TableFault → Type 0
  FirstUnfit old f =
      Unfit m o Work axis breadth old.work f
      ⊎ (Fit m o axis breadth old.work × Unfit m o (transform axis) axis len old.transform f)
      ⊎ (Fit m o axis breadth old.work × Fit m o axis len old.transform × Unfit m (across o) (inverse axis) (other axis) len old.inverse f)

  abbrev pub Performing : Three E → Three E → Result (Unit {0}) TableFault → Type 0
  Performing old new (Ok x) = Performed old new
  Performing old new (Err f) = (new ≡ old) × FirstUnfit old f
