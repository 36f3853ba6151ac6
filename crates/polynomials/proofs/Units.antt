-- The units of the polynomials, and their normal form.
use Rattle.std.proofs.Common.{◌≡◌, ◌≢◌, ℕ, zero, suc, sym, ap, ◌∙◌, arith}
use Rattle.algebra.specs.Ring.{Invertible}
use Rattle.algebra.specs.Field.{Field}
use Rattle.algebra.proofs.Ring.{one_mul, mul_zero, zero_mul}
use Rattle.polynomials.specs.Polynomial.{Polynomial, size, null, constant, times, polynomials, leading, coefficient_before, unit, inverse}
use Rattle.polynomials.proofs.Coefficients.{same_coefficients, null_coefficient, add_power_coefficient}
use Rattle.polynomials.proofs.Laws.{polynomial_laws, constant_times}
use Rattle.polynomials.proofs.Sizes.{null_size, null_or_degree, degree, times_size, constant_size, polynomial_domain}

module _ {F : Type 0} (K : Field F) where
  open K use {ring as R, laws}

  inverse_not_zero : (x : F) → (x ≢ R.zero) → K.inverse x ≢ R.zero
  inverse_not_zero x h z = K.one_not_zero (sym (K.mul_inverse x h) ∙ ap (R.mul x) z ∙ mul_zero laws x)

  constant_mul : (c d : F) → times K (constant K c) (constant K d) ≡ constant K (R.mul c d)
  constant_mul c d = same_coefficients K _ _ (λ k. constant_times K c (constant K d) k ∙ at k)
    where
      at : (k : ℕ) → R.mul c ((constant K d).coefficient k) ≡ (constant K (R.mul c d)).coefficient k
      at zero = ap (R.mul c) (add_power_coefficient K d (null K) 0) ∙ sym (add_power_coefficient K (R.mul c d) (null K) 0)
      at (suc k) =
          ap (R.mul c) (add_power_coefficient K d (null K) (suc k) ∙ null_coefficient K k) ∙ mul_zero laws c
          ∙ sym (add_power_coefficient K (R.mul c d) (null K) (suc k) ∙ null_coefficient K k)

  unit_size : (u v : Polynomial K) → times K u v ≡ constant K R.one → size K u ≡ 1
  unit_size u v e =
      let one = (polynomial_domain K).one_not_zero in
      let (m, i) = degree K u (λ z. one (sym e ∙ ap (λ t. times K t v) z ∙ zero_mul (polynomial_laws K) v)) in
      let (n, j) = degree K v (λ z. one (sym e ∙ ap (times K u) z ∙ mul_zero (polynomial_laws K) u)) in
      let s = times_size K u v m n i j in
      let t = ap (size K) e ∙ constant_size K R.one K.one_not_zero in
      omega arith

  -- a unit is a constant
  unit_constant : (u : Polynomial K) → size K u ≡ 1 → u ≡ constant K (u.coefficient 0)
  unit_constant u e = same_coefficients K u (constant K (u.coefficient 0)) at
    where
      at : (k : ℕ) → u.coefficient k ≡ (constant K (u.coefficient 0)).coefficient k
      at zero = sym (add_power_coefficient K (u.coefficient 0) (null K) 0)
      at (suc k) = u.exact.beyond (suc k) (omega arith) ∙ sym (add_power_coefficient K (u.coefficient 0) (null K) (suc k) ∙ null_coefficient K k)

  -- a multiple by a unit has the same size
  pub unit_times_size : (u a : Polynomial K) → Invertible (polynomials K) u → size K (times K u a) ≡ size K a
  unit_times_size u a (v, e) = null_or_degree K a
      (λ z. ap (size K) (ap (times K u) z ∙ mul_zero (polynomial_laws K) u ∙ sym z))
      (λ m d. let s = times_size K u a 0 m (unit_size u v e) d in omega arith)

  leading_null : leading K (null K) ≡ R.one
  leading_null = ap (coefficient_before K (null K)) (null_size K)

  leading_at : (a : Polynomial K) (m : ℕ) → size K a ≡ suc m → leading K a ≡ a.coefficient m
  leading_at a m e = ap (coefficient_before K a) e

  pub leading_not_zero : (a : Polynomial K) → leading K a ≢ R.zero
  leading_not_zero a z = null_or_degree K a
      (λ e. K.one_not_zero (sym (ap (leading K) e ∙ leading_null) ∙ z))
      (λ m e. a.exact.top m e (sym (leading_at a m e) ∙ z))

  leading_times : (c : F) (a : Polynomial K) (m : ℕ) → (c ≢ R.zero) → size K a ≡ suc m → leading K (times K (constant K c) a) ≡ R.mul c (leading K a)
  leading_times c a m h e =
      let s : size K (times K (constant K c) a) ≡ suc m = times_size K (constant K c) a 0 m (constant_size K c h) e ∙ omega arith in
      leading_at (times K (constant K c) a) m s ∙ constant_times K c a m ∙ ap (R.mul c) (sym (leading_at a m e))

  inverse_leading : (a : Polynomial K) → R.mul (K.inverse (leading K a)) (leading K a) ≡ R.one
  inverse_leading a = laws.mul_comm (K.inverse (leading K a)) (leading K a) ∙ K.mul_inverse (leading K a) (leading_not_zero a)

  pub unit_inverse : (a : Polynomial K) → times K (unit K a) (inverse K a) ≡ constant K R.one
  unit_inverse a = constant_mul (K.inverse (leading K a)) (leading K a) ∙ ap (constant K) (inverse_leading a)

  pub inverse_null : inverse K (null K) ≡ constant K R.one
  inverse_null = ap (constant K) leading_null

  pub unit_null : unit K (null K) ≡ constant K R.one
  unit_null = ap (λ c. constant K (K.inverse c)) leading_null ∙ ap (constant K) (sym (one_mul laws (K.inverse R.one)) ∙ K.mul_inverse R.one K.one_not_zero)

  pub unit_normal : (a : Polynomial K) → leading K (times K (unit K a) a) ≡ R.one
  unit_normal a = null_or_degree K a
      (λ z. ap (leading K) (ap (times K (unit K a)) z ∙ mul_zero (polynomial_laws K) (unit K a)) ∙ leading_null)
      (λ m e. leading_times (K.inverse (leading K a)) a m (inverse_not_zero (leading K a) (leading_not_zero a)) e ∙ inverse_leading a)

  normal_constant : (c : F) (a : Polynomial K) → (c ≢ R.zero) → leading K a ≡ R.one → leading K (times K (constant K c) a) ≡ R.one → times K (constant K c) a ≡ a
  normal_constant c a h p q = null_or_degree K a
      (λ z. ap (times K (constant K c)) z ∙ mul_zero (polynomial_laws K) (constant K c) ∙ sym z)
      (λ m d.
      let one : c ≡ R.one = sym (laws.mul_one c) ∙ ap (R.mul c) (sym p) ∙ sym (leading_times c a m h d) ∙ q in
      ap (λ t. times K (constant K t) a) one ∙ one_mul (polynomial_laws K) a)

  pub normal_once : (a u : Polynomial K) → Invertible (polynomials K) u → leading K a ≡ R.one → leading K (times K u a) ≡ R.one → times K u a ≡ a
  normal_once a u (v, e) p q =
      let s = unit_size u v e in
      let is = unit_constant u s in
      ap (λ t. times K t a) is ∙ normal_constant (u.coefficient 0) a (u.exact.top 0 s) p (ap (λ t. leading K (times K t a)) (sym is) ∙ q)
