-- The variable, and polynomials built from it power by power.
use Rattle.std.proofs.Common.{◌≡◌, ℕ, zero, suc, sym, refl, ap, ◌∙◌, ap₂}
use Rattle.algebra.specs.Field.{Field}
use Rattle.algebra.specs.Sequence.{before, convolution}
use Rattle.algebra.proofs.Ring.{one_mul, zero_mul, zero_add}
use Rattle.algebra.proofs.Convolution.{convolution_start, first_term}
use Rattle.polynomials.specs.Polynomial.{Polynomial, null, add_power, drop_power, constant, plus, times}
use Rattle.polynomials.proofs.Coefficients.{same_coefficients, null_coefficient, add_power_coefficient, drop_power_coefficient, plus_coefficient}
use Rattle.polynomials.proofs.Laws.{polynomial_laws, constant_times}

module _ {F : Type 0} (K : Field F) where
  open K use {ring as R, laws}

  abbrev pub variable : Polynomial K
  variable = add_power K R.zero (constant K R.one)

  -- a polynomial is its constant, and x times the rest
  pub powers : (p : Polynomial K) → p ≡ add_power K (p.coefficient 0) (drop_power K p)
  powers p = same_coefficients K p (add_power K (p.coefficient 0) (drop_power K p)) (λ k. at k ∙ sym (add_power_coefficient K (p.coefficient 0) (drop_power K p) k))
    where
      at : (k : ℕ) → p.coefficient k ≡ before (p.coefficient 0) (drop_power K p).coefficient k
      at zero = refl
      at (suc k) = sym (drop_power_coefficient K p k)

  constant_zero : constant K R.zero ≡ null K
  constant_zero = same_coefficients K (constant K R.zero) (null K) (λ k. add_power_coefficient K R.zero (null K) k ∙ at k ∙ sym (null_coefficient K k))
    where
      at : (k : ℕ) → before R.zero (null K).coefficient k ≡ R.zero
      at zero = refl
      at (suc k) = null_coefficient K k

  add_power_times : (c : F) (p q : Polynomial K) → times K (add_power K c p) q ≡ plus K (times K (constant K c) q) (add_power K R.zero (times K p q))
  unfolding times add_power plus null
  add_power_times c p q = same_coefficients K _ _ at
    where
      at : (k : ℕ) → convolution R (before c p.coefficient) q.coefficient k ≡ R.add ((times K (constant K c) q).coefficient k) (before R.zero (convolution R p.coefficient q.coefficient) k)
      at zero = convolution_start laws (before c p.coefficient) q.coefficient ∙ sym (constant_times K c q 0) ∙ sym (laws.add_zero ((times K (constant K c) q).coefficient 0))
      at (suc k) = first_term laws (before c p.coefficient) q.coefficient k ∙ ap (λ t. R.add t (convolution R p.coefficient q.coefficient k)) (sym (constant_times K c q (suc k)))

  -- x times p
  pub variable_times : (p : Polynomial K) → times K variable p ≡ add_power K R.zero p
  variable_times p = add_power_times R.zero (constant K R.one) p
      ∙ ap₂ (plus K) (ap (λ t. times K t p) constant_zero ∙ zero_mul (polynomial_laws K) p) (ap (add_power K R.zero) (one_mul (polynomial_laws K) p))
      ∙ zero_add (polynomial_laws K) (add_power K R.zero p)

  pub add_power_is : (c : F) (p : Polynomial K) → add_power K c p ≡ plus K (constant K c) (times K variable p)
  add_power_is c p = same_coefficients K _ _ (λ k.
      add_power_coefficient K c p k ∙ at k
      ∙ sym (plus_coefficient K (constant K c) (times K variable p) k
      ∙ ap₂ R.add (add_power_coefficient K c (null K) k) (ap (λ t. t.coefficient k) (variable_times p) ∙ add_power_coefficient K R.zero p k)))
    where
      at : (k : ℕ) → before c p.coefficient k ≡ R.add (before c (null K).coefficient k) (before R.zero p.coefficient k)
      at zero = sym (laws.add_zero c)
      at (suc k) = sym (ap (λ t. R.add t (p.coefficient k)) (null_coefficient K k) ∙ zero_add laws (p.coefficient k))
