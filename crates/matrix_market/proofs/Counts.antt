-- How many lines a text has.
use Rattle.std.proofs.Common.{ℕ, suc, ◌+◌, ◌≤◌, true, false, cond, eqb, List, [], ◌∷◌, length, arith}
use Rattle.matrix_market.specs.Layout.{Bytes, lines, onto}

length_onto : (b : ℕ) (ls : List Bytes) → length (onto b ls) ≤ length ls + 1
length_onto b [] = omega arith
length_onto b (l ∷ ls) = omega arith

-- a text has no more lines than bytes
pub length_lines : (s : Bytes) → length (lines s) ≤ length s
length_lines [] = omega arith
length_lines (b ∷ bs) =
    elim (eqb b 10) as (λ v. length (cond v ([] ∷ lines bs) (onto b (lines bs))) ≤ suc (length bs))
    [ true ↦ omega (arith, length_lines bs) | false ↦ omega (arith, length_onto b (lines bs), length_lines bs) ]
