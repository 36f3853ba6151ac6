-- The Gaussian integers are a commutative ring, and the norm is multiplicative. Proofs that Laws needs.
--
--   parts_equal     members with the same parts are the same
--   gaussian_laws   the laws of a commutative ring
--   norm_mul        the norm of a product
--   norm_conjugate  the norm of the conjugate
--   mul_conjugate   a member times its conjugate is its norm
--   mul_real        a member times a whole number
use Rattle.std.specs.Prelude.{◌≡◌, [], ◌∷◌, ℤ, pos, ◌*ℤ◌, refl}
use Rattle.std.proofs.Common.{ap₂}
use Rattle.algebra.specs.Ring.{RingLaws}
use Rattle.algebra.proofs.Solver.{ring, reify}
use Rattle.algebra.proofs.Whole.{whole_laws}
use Rattle.gaussian_integers.specs.Gaussian.{Gaussian, gauss, gaussian, conjugate, norm}

-- equal parts, equal members
pub parts_equal : {a b : Gaussian} → a.re ≡ b.re → a.im ≡ b.im → a ≡ b
parts_equal p q = ap₂ gauss p q

pub gaussian_laws : RingLaws gaussian
gaussian_laws = record {
  add_assoc = λ a b c. parts_equal (whole_laws.add_assoc a.re b.re c.re) (whole_laws.add_assoc a.im b.im c.im);
  add_comm = λ a b. parts_equal (whole_laws.add_comm a.re b.re) (whole_laws.add_comm a.im b.im);
  add_zero = λ a. parts_equal (whole_laws.add_zero a.re) (whole_laws.add_zero a.im);
  add_neg = λ a. parts_equal (whole_laws.add_neg a.re) (whole_laws.add_neg a.im);
  mul_assoc = λ a b c. parts_equal
      (ring whole_laws (a.re ∷ a.im ∷ b.re ∷ b.im ∷ c.re ∷ c.im ∷ []) (search reify depth 20 fits 20000) refl)
      (ring whole_laws (a.re ∷ a.im ∷ b.re ∷ b.im ∷ c.re ∷ c.im ∷ []) (search reify depth 20 fits 20000) refl);
  mul_comm = λ a b. parts_equal
      (ring whole_laws (a.re ∷ a.im ∷ b.re ∷ b.im ∷ []) (search reify depth 20) refl)
      (ring whole_laws (a.re ∷ a.im ∷ b.re ∷ b.im ∷ []) (search reify depth 20) refl);
  mul_one = λ a. parts_equal
      (ring whole_laws (a.re ∷ a.im ∷ []) (search reify depth 20) refl)
      (ring whole_laws (a.re ∷ a.im ∷ []) (search reify depth 20) refl);
  mul_add = λ a b c. parts_equal
      (ring whole_laws (a.re ∷ a.im ∷ b.re ∷ b.im ∷ c.re ∷ c.im ∷ []) (search reify depth 20 fits 20000) refl)
      (ring whole_laws (a.re ∷ a.im ∷ b.re ∷ b.im ∷ c.re ∷ c.im ∷ []) (search reify depth 20 fits 20000) refl);
}

pub norm_mul : (a b : Gaussian) → norm (gaussian.mul a b) ≡ norm a *ℤ norm b
norm_mul a b = ring whole_laws (a.re ∷ a.im ∷ b.re ∷ b.im ∷ []) (search reify depth 20) refl

pub norm_conjugate : (a : Gaussian) → norm (conjugate a) ≡ norm a
norm_conjugate a = ring whole_laws (a.re ∷ a.im ∷ []) (search reify depth 20) refl

-- a member times its conjugate is its norm
pub mul_conjugate : (a : Gaussian) → gaussian.mul a (conjugate a) ≡ gauss (norm a) (pos 0)
mul_conjugate a = parts_equal
    (ring whole_laws (a.re ∷ a.im ∷ []) (search reify depth 20) refl)
    (ring whole_laws (a.re ∷ a.im ∷ []) (search reify depth 20) refl)

-- an integer scales each part
pub mul_real : (a : Gaussian) (n : ℤ) → gaussian.mul a (gauss n (pos 0)) ≡ gauss (a.re *ℤ n) (a.im *ℤ n)
mul_real a n = parts_equal
    (ring whole_laws (a.re ∷ a.im ∷ n ∷ []) (search reify depth 20) refl)
    (ring whole_laws (a.re ∷ a.im ∷ n ∷ []) (search reify depth 20) refl)
