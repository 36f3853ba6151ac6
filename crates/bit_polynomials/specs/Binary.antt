-- Numbers as polynomials over the field of two.
--
--   odd          the remainder by two is one
--   bit          bit k of n
--   below_power  n is below the n-th power of two
--   bits_end     a number below the m-th power of two has no bit from place m on
--   binary       the polynomial of which bit k of n is the coefficient of the k-th power
use Rattle.std.specs.Prelude.{◌≡◌, ℕ, zero, suc, ◌/◌, ◌%◌, ◌^◌, ◌<◌, ◌≤◌, Bool, ◌==◌}
use Rattle.std.proofs.Common.{ap, pow-suc, arith, pow_mono, pow_pos}
use Rattle.std.proofs.lemmas.Nat.{div_below}
use Rattle.algebra.specs.Sequence.{Ends}
use Rattle.polynomials.specs.Polynomial.{Polynomial, polynomial}
use Rattle.bit_polynomials.specs.Two.{two_ring, two}

abbrev pub odd : ℕ → Bool
odd n = n % 2 == 1

abbrev pub bit : ℕ → ℕ → Bool
bit n k = odd (n / 2 ^ k)

pub below_power : (n : ℕ) → n < 2 ^ n
below_power zero = omega arith
below_power (suc n) = let h = below_power n in let e = pow-suc 2 n in omega arith

pub bits_end : (m n : ℕ) → n < 2 ^ m → Ends two_ring (bit n) m
bits_end m n h k l =
    let p : 2 ^ m ≤ 2 ^ k = pow_mono {i = m} {j = k} l in
    let z = div_below n (2 ^ k) 1 (pow_pos k) (omega arith) in
    let e : n / 2 ^ k ≡ 0 = omega arith in
    ap odd e

unfoldable pub binary : ℕ → Polynomial two
binary n = polynomial two (bit n) n (bits_end n n (below_power n))
