-- What the calls on a presentation answer and leave.
--
--   LongAdd      the tables of add have at least 1,024 elements, and the row at least n
--   LongStep     the tables of step and run have at least 1,024 elements
--   Opening      what open answers and leaves of Q and Q*
--   Accepted     what an accepted relation does to the tables
--   Accepting    a relation is accepted, or refused with the tables as found
--   Adding       what add answers and leaves
--   after        the shape after a line: the corner rises by line 8 alone
--   by_rows      the tables that an operation on rows is performed on: W, P, P*
--   by_columns   those for an operation on columns: W, Q, Q*
--   MadeOn       the operation of a line was made on the tables, and the other tables are as they were
--   UnfitOn      the first entry that the operation of a line would write and that does not fit
--   Performs     a line was performed, or nothing was written
--   Next         one step: a line, its positions and its operation
--   Refused      why a step is refused
--   Stepping     what a step answers and leaves
--   Reach        a number of steps, one after another
--   Stopped      why a run is refused, and what it kept: the steps that it counted
--   Running      what a run answers and leaves
use Rattle.std.specs.Prelude.{◌≡◌, ℕ, ◌+◌, ◌<◌, ◌≤◌, ◌⊎◌, List, length, Some, None, Ok, Err, Option, Result}
use Rattle.kinds.specs.Model.{Model}
use Rattle.presentation.specs.declared.fault.CallFault.{CallFault}
use Rattle.presentation.specs.declared.fault.CallFault.TheVariants.{Short, Generators, Full, InTable}
use Rattle.presentation.specs.declared.fault.TableFault.{TableFault}
use Rattle.presentation.specs.declared.operation.Operation.{Operation}
use Rattle.presentation.specs.declared.prescribe.Line.{Line}
use Rattle.presentation.specs.declared.prescribe.Line.TheVariants.{SwapRows, SwapColumns, Normalise, ReduceRow, ReduceColumn, AddColumn, Advance}
use Rattle.presentation.specs.declared.state.Step.{Step}
use Rattle.presentation.specs.declared.state.Step.TheVariants as step
use Rattle.presentation.specs.declared.state.Run.{Run}
use Rattle.presentation.specs.declared.state.Run.TheVariants as run
use Rattle.presentation.specs.declared.table.Axis.{Axis}
use Rattle.presentation.specs.declared.table.Axis.TheVariants.{Row, Column}
use Rattle.presentation.specs.Lent.{LentAdd, LentStep}
use Rattle.presentation.specs.Operations.{Three, Performed, FirstUnfit}
use Rattle.presentation.specs.Places.{Written, Grown, Identity}
use Rattle.presentation.specs.Products.{Put, UnfitSum}
use Rattle.presentation.specs.Rests.{RestZero, Placed, operation}
use Rattle.presentation.specs.Shapes.{Shape, shape, Bounded}

pub record LongAdd {E : Type 0} (n : ℕ) (x q : List E) (t : LentAdd E) : Type 0 where
  pub row : n ≤ length x
  pub relations : 1024 ≤ length t.relations
  pub work : 1024 ≤ length t.work
  pub left : 1024 ≤ length t.left
  pub left_inverse : 1024 ≤ length t.left_inverse
  pub right : 1024 ≤ length q

pub record LongStep {E : Type 0} (t : LentStep E) : Type 0 where
  pub work : 1024 ≤ length t.work
  pub left : 1024 ≤ length t.left
  pub left_inverse : 1024 ≤ length t.left_inverse
  pub right : 1024 ≤ length t.right
  pub right_inverse : 1024 ≤ length t.right_inverse

abbrev pub after : {E : Type 0} → Line E → Shape → Shape
after (SwapRows i) s = s
after (SwapColumns j) s = s
after (Normalise u v) s = s
after (ReduceRow i q) s = s
after (ReduceColumn j q) s = s
after (AddColumn j one) s = s
after Advance s = shape s.m s.n (s.c + 1)

module _ {E S : Type 0} (m : Model E S) where
  abbrev pub Opening : ℕ → List E → List E → List E → List E → Result Shape CallFault → Type 0
  Opening n q q' r r' (Ok s) = (s ≡ shape 0 n 0) × Bounded s × (1024 ≤ length q) × (1024 ≤ length q') × Identity m n q r × Identity m n q' r'
  Opening n q q' r r' (Err Short) = (r ≡ q) × (r' ≡ q') × ((length q < 1024) ⊎ (length q' < 1024))
  Opening n q q' r r' (Err Generators) = (r ≡ q) × (r' ≡ q') × (1024 ≤ length q) × (1024 ≤ length q') × ((n ≡ 0) ⊎ (32 < n))
  Opening n q q' r r' (Err Full) = ⊥
  Opening n q q' r r' (Err (InTable f)) = ⊥

  pub record Accepted (k n : ℕ) (row right : List E) (old new : LentAdd E) : Type 0 where
    pub relations : Written Row k n row old.relations new.relations
    pub work : Put m n row right k old.work new.work
    pub left : Grown m k old.left new.left
    pub left_inverse : Grown m k old.left_inverse new.left_inverse

  abbrev pub Accepting : ℕ → ℕ → List E → List E → LentAdd E → LentAdd E → Result (Unit {0}) CallFault → Type 0
  Accepting k n row right old new (Ok x) = LongAdd n row right old × (k < 32) × Accepted k n row right old new
  Accepting k n row right old new (Err Short) = (new ≡ old) × ¬ (LongAdd n row right old)
  Accepting k n row right old new (Err Full) = (new ≡ old) × LongAdd n row right old × (k ≡ 32)
  Accepting k n row right old new (Err (InTable f)) = (new ≡ old) × LongAdd n row right old × (k < 32) × UnfitSum m n row right k f
  Accepting k n row right old new (Err Generators) = ⊥

  abbrev pub Adding : Shape → List E → List E → LentAdd E → LentAdd E → Result Shape (Shape × CallFault) → Type 0
  Adding s row right old new (Ok o) = (o ≡ shape (s.m + 1) s.n 0) × Bounded o × Accepting s.m s.n row right old new (Ok tt)
  Adding s row right old new (Err p) = (p.0 ≡ s) × Bounded p.0 × Accepting s.m s.n row right old new (Err p.1)

  abbrev pub by_rows : LentStep E → Three E
  by_rows t = record { work = t.work; transform = t.left; inverse = t.left_inverse }

  abbrev pub by_columns : LentStep E → Three E
  by_columns t = record { work = t.work; transform = t.right; inverse = t.right_inverse }

  abbrev pub MadeOn : Option (Axis × Operation E) → Shape → LentStep E → LentStep E → Type 0
  MadeOn None s t t' = t' ≡ t
  MadeOn (Some (Row, o)) s t t' = Performed m o Row s.n s.m (by_rows t) (by_rows t') × (t'.right ≡ t.right) × (t'.right_inverse ≡ t.right_inverse)
  MadeOn (Some (Column, o)) s t t' = Performed m o Column s.m s.n (by_columns t) (by_columns t') × (t'.left ≡ t.left) × (t'.left_inverse ≡ t.left_inverse)

  abbrev pub UnfitOn : Option (Axis × Operation E) → Shape → LentStep E → TableFault → Type 0
  UnfitOn None s t f = ⊥
  UnfitOn (Some (Row, o)) s t f = FirstUnfit m o Row s.n s.m (by_rows t) f
  UnfitOn (Some (Column, o)) s t f = FirstUnfit m o Column s.m s.n (by_columns t) f

  abbrev pub Performs : Line E → Shape → LentStep E → LentStep E → Result (Unit {0}) TableFault → Type 0
  Performs line s t t' (Ok x) = MadeOn (operation line s.c) s t t'
  Performs line s t t' (Err f) = (t' ≡ t) × UnfitOn (operation line s.c) s t f

  pub record Next (s : Shape) (t : LentStep E) (s' : Shape) (t' : LentStep E) : Type 0 where
    pub line : Line E
    pub placed : Placed s line
    pub made : MadeOn (operation line s.c) s t t'
    pub shape_is : s' ≡ after line s

  -- why a step is refused: a short table, or the first entry of a line's operation that does not fit
  abbrev pub Refused : Shape → LentStep E → CallFault → Type 0
  Refused s t Short = ¬ (LongStep t)
  Refused s t (InTable f) = LongStep t × ((line : Line E) × Placed s line × UnfitOn (operation line s.c) s t f)
  Refused s t Generators = ⊥
  Refused s t Full = ⊥

  abbrev pub Stepping : Shape → LentStep E → LentStep E → Result Step (Shape × CallFault) → Type 0
  Stepping s t t' (Ok (step.Stepped o)) = LongStep t × Bounded o × Next s t o t'
  Stepping s t t' (Ok (step.Done f)) = (f ≡ s) × Bounded f × (t' ≡ t) × LongStep t × RestZero m s t.work
  Stepping s t t' (Err p) = (p.0 ≡ s) × Bounded p.0 × (t' ≡ t) × Refused s t p.1

  -- k steps lead from s and t
  pub data Reach (s : Shape) (t : LentStep E) : ℕ → Shape → LentStep E → Type 0 where
    start : Reach s t 0 s t
    more : (k : ℕ) (u v : Shape) (x y : LentStep E) → Reach s t k u x → Next u x v y → Reach s t (k + 1) v y

  abbrev pub Stopped : ℕ → Shape → LentStep E → ℕ → Shape → LentStep E → CallFault → Type 0
  Stopped budget s t k s' t' Short = (k ≡ 0) × (s' ≡ s) × (t' ≡ t) × ¬ (LongStep t)
  Stopped budget s t k s' t' (InTable f) = LongStep t × (k < budget) × Reach s t k s' t' × Refused s' t' (InTable f)
  Stopped budget s t k s' t' Generators = ⊥
  Stopped budget s t k s' t' Full = ⊥

  abbrev pub Running : ℕ → Shape → LentStep E → LentStep E → Result Run (Shape × ℕ × CallFault) → Type 0
  Running budget s t t' (Ok (run.Done f k)) = LongStep t × Bounded f × (k ≤ budget) × Reach s t k f t' × RestZero m f t'.work
  Running budget s t t' (Ok (run.Spent o k)) = LongStep t × Bounded o × (k ≡ budget) × Reach s t k o t'
  Running budget s t t' (Err p) = Bounded p.0 × Stopped budget s t p.1 p.0 t' p.2
