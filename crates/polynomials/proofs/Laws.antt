-- The polynomials over a field are a commutative ring.
use Rattle.std.proofs.Common.{◌≡◌, ℕ, refl, ◌∙◌, ap₂}
use Rattle.algebra.specs.Ring.{RingLaws}
use Rattle.algebra.specs.Field.{Field}
use Rattle.algebra.proofs.Ring.{one_mul}
use Rattle.algebra.proofs.Sequence.{before_ends}
use Rattle.algebra.proofs.Convolution.{add_convolution, convolution_comm, convolution_assoc, convolution_constant}
use Rattle.polynomials.specs.Polynomial.{Polynomial, null, add_power, constant, plus, minus, times, polynomials}
use Rattle.polynomials.proofs.Coefficients.{same_coefficients}

module _ {F : Type 0} (K : Field F) where
  open K use {ring as R, laws}

  times_assoc : (p q r : Polynomial K) → times K (times K p q) r ≡ times K p (times K q r)
  unfolding times
  times_assoc p q r = same_coefficients K _ _ (convolution_assoc laws p.coefficient q.coefficient r.coefficient)

  times_comm : (p q : Polynomial K) → times K p q ≡ times K q p
  unfolding times
  times_comm p q = same_coefficients K _ _ (convolution_comm laws p.coefficient q.coefficient)

  plus_times : (p q r : Polynomial K) → times K (plus K p q) r ≡ plus K (times K p r) (times K q r)
  unfolding plus times
  plus_times p q r = same_coefficients K _ _ (add_convolution laws p.coefficient q.coefficient r.coefficient)

  -- a constant multiplies each coefficient
  pub constant_times : (c : F) (p : Polynomial K) (k : ℕ) → (times K (constant K c) p).coefficient k ≡ R.mul c (p.coefficient k)
  unfolding times add_power null
  constant_times c p k = convolution_constant laws (constant K c).coefficient p.coefficient k (before_ends R c (null K).coefficient 0 (λ _ _. refl))

  one_times : (p : Polynomial K) → times K (constant K R.one) p ≡ p
  one_times p = same_coefficients K _ _ (λ k. constant_times R.one p k ∙ one_mul laws (p.coefficient k))

  pub polynomial_laws : RingLaws (polynomials K)
  unfolding plus minus null
  polynomial_laws = record {
    add_assoc = λ p q r. same_coefficients K _ _ (λ k. laws.add_assoc (p.coefficient k) (q.coefficient k) (r.coefficient k));
    add_comm = λ p q. same_coefficients K _ _ (λ k. laws.add_comm (p.coefficient k) (q.coefficient k));
    add_zero = λ p. same_coefficients K _ _ (λ k. laws.add_zero (p.coefficient k));
    add_neg = λ p. same_coefficients K _ _ (λ k. laws.add_neg (p.coefficient k));
    mul_assoc = times_assoc;
    mul_comm = times_comm;
    mul_one = λ p. times_comm p (constant K R.one) ∙ one_times p;
    mul_add = λ p q r. times_comm p (plus K q r) ∙ plus_times q r p ∙ ap₂ (plus K) (times_comm q p) (times_comm r p);
  }
