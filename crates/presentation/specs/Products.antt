-- A row times a table, and what becomes of the row of the worktable that it is put into.
--
--   dot          entry j of the product of a row and a table of n rows
--   ZeroRow      the first n elements of a row are zero
--   Sums         the first k entries of a line are those of the product
--   Put          row i of the worktable holds the product, and all else is as it was
--   UnfitSum     the fault of the first entry of the product that does not fit
--   Putting      the product is put, or nothing is written
use Rattle.std.specs.Prelude.{◌≡◌, ℕ, ◌<◌, List, Ok, Err, Result, ◌≢◌, slice_index_or}
use Rattle.algebra.specs.Sum.{sum}
use Rattle.kinds.specs.declared.ElementFault.TheVariants.{Range}
use Rattle.kinds.specs.Model.{Model}
use Rattle.presentation.specs.declared.fault.Table.TheVariants.{Work}
use Rattle.presentation.specs.declared.fault.TableFault.{TableFault}
use Rattle.presentation.specs.declared.table.Axis.TheVariants.{Row}
use Rattle.presentation.specs.Places.{place, fault_at, meant}
use Rattle.presentation.specs.Rests.{member}

module _ {E S : Type 0} (m : Model E S) (n : ℕ) where
  abbrev pub dot : List E → List E → ℕ → m.Member
  dot row t j = sum m.ring n (λ k. m.ring.mul (meant m row k) (member m t k j))

  abbrev pub ZeroRow : List E → Type 0
  ZeroRow row = (k : ℕ) → k < n → meant m row k ≡ m.ring.zero

  abbrev pub Sums : List E → List E → ℕ → List E → Type 0
  Sums row t k line = (j : ℕ) (d : E) → j < k → m.mean (slice_index_or line j d) ≡ dot row t j

  pub record Put (row t : List E) (i : ℕ) (old new : List E) : Type 0 where
    pub row_is : (j : ℕ) → j < n → member m new i j ≡ dot row t j
    pub others : (p : ℕ) (d : E) → ((j : ℕ) → j < n → p ≢ place Row i j) → slice_index_or new p d ≡ slice_index_or old p d

  pub record UnfitSum (row t : List E) (i : ℕ) (f : TableFault) : Type 0 where
    pub at : ℕ
    pub inside : at < n
    pub is : f ≡ fault_at Row Work i at Range
    pub here : ¬ (m.Fits (dot row t at))
    pub before : (j : ℕ) → j < at → m.Fits (dot row t j)

  abbrev pub Putting : List E → List E → ℕ → List E → List E → Result (Unit {0}) TableFault → Type 0
  Putting row t i old new (Ok x) = Put row t i old new
  Putting row t i old new (Err f) = (new ≡ old) × UnfitSum row t i f
