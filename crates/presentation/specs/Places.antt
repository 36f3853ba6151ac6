-- Tables of rows of 32, and what becomes of their rows and columns.
--
--   place        the place of entry k of row i, or of column i
--   other        rows for columns, and columns for rows
--   transform    the table that keeps the operations of an axis
--   inverse      the inverse of that table
--   fault_at     the fault of entry k of row i, or of column i
--   meant        the member at a place, and zero past the end
--   Written      a row or column has new entries, and all else is as it was
--   Swapped      two rows or columns are exchanged, and all else is as it was
--   Identity     the first n rows and columns are those of the identity, and all else is as it was
--   Grown        a row and a column of the identity are added, and all else is as it was
use Rattle.std.specs.Prelude.{◌≡◌, ℕ, zero, suc, ◌+◌, ◌*◌, ◌<◌, ◌≤◌, List, [], ◌∷◌, ◌≢◌, slice_index_or}
use Rattle.kinds.specs.declared.ElementFault.{ElementFault}
use Rattle.kinds.specs.Model.{Model}
use Rattle.presentation.specs.declared.fault.Table.{Table}
use Rattle.presentation.specs.declared.fault.Table.TheVariants.{Left, LeftInverse, Right, RightInverse}
use Rattle.presentation.specs.declared.fault.TableFault.{TableFault}
use Rattle.presentation.specs.declared.table.Axis.{Axis}
use Rattle.presentation.specs.declared.table.Axis.TheVariants.{Row, Column}

abbrev pub place : Axis → ℕ → ℕ → ℕ
place Row i k = 32 * i + k
place Column i k = 32 * k + i

abbrev pub other : Axis → Axis
other Row = Column
other Column = Row

abbrev pub transform : Axis → Table
transform Row = Left
transform Column = Right

abbrev pub inverse : Axis → Table
inverse Row = LeftInverse
inverse Column = RightInverse

abbrev pub fault_at : Axis → Table → ℕ → ℕ → ElementFault → TableFault
fault_at Row t i k f = record { table = t; row = i; column = k; fault = f }
fault_at Column t i k f = record { table = t; row = k; column = i; fault = f }

abbrev pub meant : {E S : Type 0} (m : Model E S) → List E → ℕ → m.Member
meant m [] k = m.ring.zero
meant m (x ∷ xs) zero = m.mean x
meant m (x ∷ xs) (suc k) = meant m xs k

-- entries 0 to len - 1 of row or column i are those of xs
pub record Written {E : Type 0} (axis : Axis) (i len : ℕ) (xs old new : List E) : Type 0 where
  pub entries : (k : ℕ) (d : E) → k < len → slice_index_or new (place axis i k) d ≡ slice_index_or xs k d
  pub others : (p : ℕ) (d : E) → ((k : ℕ) → k < len → p ≢ place axis i k) → slice_index_or new p d ≡ slice_index_or old p d

-- entries 0 to len - 1 of rows or columns a and b
pub record Swapped {E : Type 0} (axis : Axis) (a b len : ℕ) (old new : List E) : Type 0 where
  pub first : (k : ℕ) (d : E) → k < len → slice_index_or new (place axis a k) d ≡ slice_index_or old (place axis b k) d
  pub second : (k : ℕ) (d : E) → k < len → slice_index_or new (place axis b k) d ≡ slice_index_or old (place axis a k) d
  pub others : (p : ℕ) (d : E) → ((k : ℕ) → k < len → p ≢ place axis a k) → ((k : ℕ) → k < len → p ≢ place axis b k) → slice_index_or new p d ≡ slice_index_or old p d

pub record Identity {E S : Type 0} (m : Model E S) (n : ℕ) (old new : List E) : Type 0 where
  pub diagonal : (i : ℕ) → i < n → meant m new (place Row i i) ≡ m.ring.one
  pub off : (i j : ℕ) → i < n → j < n → (i ≢ j) → meant m new (place Row i j) ≡ m.ring.zero
  pub others : (p : ℕ) (d : E) → ((i j : ℕ) → i < n → j < n → p ≢ place Row i j) → slice_index_or new p d ≡ slice_index_or old p d

-- row and column `size` of a square of one more
pub record Grown {E S : Type 0} (m : Model E S) (size : ℕ) (old new : List E) : Type 0 where
  pub row : (k : ℕ) → k < size → meant m new (place Row size k) ≡ m.ring.zero
  pub column : (k : ℕ) → k < size → meant m new (place Column size k) ≡ m.ring.zero
  pub corner : meant m new (place Row size size) ≡ m.ring.one
  pub others : (p : ℕ) (d : E) → ((k : ℕ) → k ≤ size → p ≢ place Row size k) → ((k : ℕ) → k ≤ size → p ≢ place Column size k) → slice_index_or new p d ≡ slice_index_or old p d
