-- The rest of the worktable, from the corner on, and the line that a step prescribes.
--
--   In             an entry of the rest
--   member         the member at row i and column j of a table
--   RestZero       every entry of the rest is zero
--   Pivotal        an entry of the rest that is not zero
--   Zeros          entries of row or column c from c + 1 on are zero
--   FirstNonzero   the first that is not
--   Better         a size that takes the place of the least so far, which is kept with its place
--   Earlier        (a, b) comes before (i, j), by rows and then columns
--   DividedBy      a member that b leaves no remainder of
--   AllDivided     every entry of the rest is
--   FirstUndivided the first that is not, by rows and then columns
--   operation      the elementary operation that a line stands for, on rows or on columns
--   positions      the positions of a line are after the corner
--   Placed         the corner lies in the table, and the positions of a line after it
use Rattle.std.specs.Prelude.{◌≡◌, ◌≢◌, ℕ, ◌+◌, ◌*◌, ◌<◌, ◌≤◌, ◌⊎◌, List, Some, None, Option}
use Rattle.kinds.specs.Model.{Model}
use Rattle.presentation.specs.declared.table.Axis.{Axis}
use Rattle.presentation.specs.declared.table.Axis.TheVariants.{Row, Column}
use Rattle.presentation.specs.declared.operation.Change.TheVariants.{Scale, Add, Subtract}
use Rattle.presentation.specs.declared.operation.Operation.{Operation}
use Rattle.presentation.specs.declared.operation.Operation.TheVariants.{Swap, Combine}
use Rattle.presentation.specs.declared.prescribe.Line.{Line}
use Rattle.presentation.specs.declared.prescribe.Line.TheVariants.{SwapRows, SwapColumns, Normalise, ReduceRow, ReduceColumn, AddColumn, Advance}
use Rattle.presentation.specs.Places.{place, meant}
use Rattle.presentation.specs.Shapes.{Shape}

pub record In (s : Shape) (i j : ℕ) : Type 0 where
  pub row_from : s.c ≤ i
  pub row_below : i < s.m
  pub column_from : s.c ≤ j
  pub column_below : j < s.n

abbrev pub Earlier : ℕ → ℕ → ℕ → ℕ → Type 0
Earlier i j a b = (a < i) ⊎ ((a ≡ i) × (b < j))

abbrev pub Better : ℕ → Option (ℕ × (ℕ × ℕ)) → Type 0
Better size None = 0 < size
Better size (Some least) = (0 < size) × (size < least.0)

module _ {E S : Type 0} (m : Model E S) where
  abbrev pub member : List E → ℕ → ℕ → m.Member
  member t i j = meant m t (32 * i + j)

  abbrev pub RestZero : Shape → List E → Type 0
  RestZero s w = (i j : ℕ) → In s i j → member w i j ≡ m.ring.zero

  pub record Pivotal (s : Shape) (w : List E) (i j : ℕ) : Type 0 where
    pub inside : In s i j
    pub not_zero : member w i j ≢ m.ring.zero

  abbrev pub Zeros : Axis → ℕ → ℕ → List E → Type 0
  Zeros axis c len w = (k : ℕ) → c < k → k < len → meant m w (place axis c k) ≡ m.ring.zero

  pub record FirstNonzero (axis : Axis) (c len : ℕ) (w : List E) (k : ℕ) : Type 0 where
    pub after : c < k
    pub below : k < len
    pub before : Zeros axis c k w
    pub not_zero : meant m w (place axis c k) ≢ m.ring.zero

  abbrev pub DividedBy : m.Member → m.Member → Type 0
  DividedBy b a = m.remainder a b ≡ m.ring.zero

  abbrev pub AllDivided : Shape → List E → m.Member → Type 0
  AllDivided s w b = (i j : ℕ) → In s i j → DividedBy b (member w i j)

  pub record FirstUndivided (s : Shape) (w : List E) (b : m.Member) (i j : ℕ) : Type 0 where
    pub inside : In s i j
    pub here : ¬ (DividedBy b (member w i j))
    pub before : (a c : ℕ) → In s a c → Earlier i j a c → DividedBy b (member w a c)

abbrev pub operation : {E : Type 0} → Line E → ℕ → Option (Axis × Operation E)
operation (SwapRows i) c = Some (Row, Swap i c)
operation (SwapColumns j) c = Some (Column, Swap j c)
operation (Normalise u v) c = Some (Row, Combine (record { change = Scale u v; from = c; to = c }))
operation (ReduceRow i q) c = Some (Row, Combine (record { change = Subtract q; from = c; to = i }))
operation (ReduceColumn j q) c = Some (Column, Combine (record { change = Subtract q; from = c; to = j }))
operation (AddColumn j one) c = Some (Column, Combine (record { change = Add one; from = j; to = c }))
operation Advance c = None

abbrev pub positions : {E : Type 0} → Shape → Line E → Type 0
positions s (SwapRows i) = (s.c < i) × (i < s.m)
positions s (SwapColumns j) = (s.c < j) × (j < s.n)
positions s (Normalise u v) = Unit {0}
positions s (ReduceRow i q) = (s.c < i) × (i < s.m)
positions s (ReduceColumn j q) = (s.c < j) × (j < s.n)
positions s (AddColumn j one) = (s.c ≤ j) × (j < s.n)
positions s Advance = Unit {0}

pub record Placed {E : Type 0} (s : Shape) (line : Line E) : Type 0 where
  pub row : s.c < s.m
  pub column : s.c < s.n
  pub after : positions s line
