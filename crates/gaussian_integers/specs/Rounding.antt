-- Rounding to the nearest whole number. Proofs that Laws needs.
--
--   nearest_error  twice the error is at most the divisor
--   nearest_shift  a whole number more of divisors is as much more rounded
use Rattle.std.specs.Prelude.{◌≡◌, ◌+◌, ◌<◌, ◌≤◌, T, [], ◌∷◌, ℤ, pos, ◌+ℤ◌, ◌-ℤ◌, ◌*ℤ◌, ◌<ℤ◌, ◌≢◌, unsigned_abs, refl}
use Rattle.std.proofs.Common.{ap, ◌∙◌, arith}
use Rattle.std.specs.Int.Signed.{non_neg}
use Rattle.std.specs.Int.{int_div_euclid, int_rem_euclid}
use Rattle.std.proofs.lemmas.Int.{ints}
use Rattle.algebra.proofs.Solver.{ring, reify}
use Rattle.algebra.proofs.Whole.{whole_laws}
use Rattle.algebra.proofs.WholeDivision.{divides, smaller, not_negative, quotient_shift}
use Rattle.gaussian_integers.specs.Gaussian.{nearest}

twice_not_zero : (n : ℤ) → pos 0 <ℤ n → n +ℤ n ≢ pos 0
twice_not_zero n h e = omega (arith, ints)

-- 2 x + n = 2 m + r with r from 0 to 2 n - 1 puts x - m between - n / 2 and n / 2
halfway : (x n m k r : ℤ) → pos 0 <ℤ n → x +ℤ x +ℤ n ≡ k +ℤ r → k ≡ m +ℤ m → T (non_neg r) → unsigned_abs r < unsigned_abs (n +ℤ n) → unsigned_abs (x -ℤ m) + unsigned_abs (x -ℤ m) ≤ unsigned_abs n
halfway x n m k r h d s p l = omega (arith, ints)

-- rounding x / n is off by at most 1 / 2
pub nearest_error : (x n : ℤ) → pos 0 <ℤ n → unsigned_abs (x -ℤ nearest x n *ℤ n) + unsigned_abs (x -ℤ nearest x n *ℤ n) ≤ unsigned_abs n
nearest_error x n h =
    halfway x n (nearest x n *ℤ n) (nearest x n *ℤ (n +ℤ n)) (int_rem_euclid (x +ℤ x +ℤ n) (n +ℤ n)) h
    (divides (x +ℤ x +ℤ n) (n +ℤ n) (twice_not_zero n h)) (whole_laws.mul_add (nearest x n) n n)
    (not_negative (x +ℤ x +ℤ n) (n +ℤ n)) (smaller (x +ℤ x +ℤ n) (n +ℤ n) (twice_not_zero n h))

-- a whole number added before rounding is added after it
pub nearest_shift : (x n k : ℤ) → pos 0 <ℤ n → nearest (x +ℤ k *ℤ n) n ≡ nearest x n +ℤ k
nearest_shift x n k h = ap (λ z. int_div_euclid z (n +ℤ n)) moved ∙ quotient_shift (x +ℤ x +ℤ n) (n +ℤ n) k (twice_not_zero n h)
  where
    moved : x +ℤ k *ℤ n +ℤ (x +ℤ k *ℤ n) +ℤ n ≡ x +ℤ x +ℤ n +ℤ k *ℤ (n +ℤ n)
    moved = ring whole_laws (x ∷ n ∷ k ∷ []) (search reify depth 20) refl
