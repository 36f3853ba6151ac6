-- Sizes of polynomials; a product of nonzero polynomials is nonzero.
use Rattle.std.proofs.Common.{◌≡◌, ◌≢◌, ℕ, zero, suc, ◌+◌, ◌≤◌, [], ◌∷◌, sym, refl, ap, ◌∙◌, ap₂, arith}
use Rattle.std.proofs.Math.Decide.{ℕ_discrete, dec_le}
use Rattle.algebra.specs.Ring.{Domain}
use Rattle.algebra.specs.Field.{Field}
use Rattle.algebra.specs.Sequence.{Ends}
use Rattle.algebra.proofs.Ring.{one_mul, mul_zero, zero_mul, neg_zero}
use Rattle.algebra.proofs.Sequence.{before_ends}
use Rattle.algebra.proofs.Convolution.{convolution_ends, convolution_top}
use Rattle.algebra.proofs.Solver.{ring, reify}
use Rattle.polynomials.specs.Polynomial.{Polynomial, size, null, add_power, drop_power, constant, plus, minus, times, polynomials}
use Rattle.polynomials.proofs.Coefficients.{size_at_most, same_coefficients, null_coefficient, add_power_coefficient, drop_power_coefficient, plus_coefficient, minus_coefficient, times_coefficient}
use Rattle.polynomials.proofs.Laws.{polynomial_laws}

module _ {F : Type 0} (K : Field F) where
  open K use {ring as R, laws}

  field_mul_not_zero : (x y : F) → (x ≢ R.zero) → (y ≢ R.zero) → R.mul x y ≢ R.zero
  field_mul_not_zero x y h d e = d
      (sym (one_mul laws y) ∙ ap (λ t. R.mul t y) (sym (K.mul_inverse x h))
      ∙ ring laws (x ∷ y ∷ K.inverse x ∷ []) {y = R.mul (K.inverse x) (R.mul x y)} (search reify depth 20) refl
      ∙ ap (R.mul (K.inverse x)) e ∙ mul_zero laws (K.inverse x))

  pub at_most : (p : Polynomial K) (n : ℕ) → Ends R p.coefficient n → size K p ≤ n
  at_most p n h = size_at_most K p.coefficient p.exact n h

  ends_at : (p : Polynomial K) (n : ℕ) → size K p ≤ n → Ends R p.coefficient n
  ends_at p n l k j = p.exact.beyond k (omega arith)

  -- the last coefficient that is not zero stands at m
  pub size_is : (p : Polynomial K) (m : ℕ) → Ends R p.coefficient (suc m) → (p.coefficient m ≢ R.zero) → size K p ≡ suc m
  size_is p m h d = by (dec_le (size K p) m)
    where
      by : Dec (size K p ≤ m) → size K p ≡ suc m
      by (yes l) = absurd (d (p.exact.beyond m l))
      by (no l) = let u = at_most p (suc m) h in omega arith

  pub null_size : size K (null K) ≡ 0
  null_size = let l = at_most (null K) 0 (λ k _. null_coefficient K k) in omega arith

  pub size_null : (p : Polynomial K) → size K p ≡ 0 → p ≡ null K
  size_null p e = same_coefficients K p (null K) (λ k. p.exact.beyond k (omega arith) ∙ sym (null_coefficient K k))

  -- a polynomial is null, or has a degree
  pub null_or_degree : {P : Type 0} (p : Polynomial K) → (p ≡ null K → P) → ((m : ℕ) → size K p ≡ suc m → P) → P
  null_or_degree {P} p f g = by (size K p) refl
    where
      by : (s : ℕ) → size K p ≡ s → P
      by zero e = f (size_null p e)
      by (suc m) e = g m e

  pub degree : (p : Polynomial K) → (p ≢ null K) → (m : ℕ) × (size K p ≡ suc m)
  degree p h = null_or_degree p (λ z. absurd (h z)) (λ m e. (m, e))

  pub not_null : (p : Polynomial K) (m : ℕ) → size K p ≡ suc m → p ≢ null K
  not_null p m e z = let s = ap (size K) z ∙ null_size in omega arith

  pub null? : (p : Polynomial K) → Dec (p ≡ null K)
  null? p = by (ℕ_discrete (size K p) 0)
    where
      by : Dec (size K p ≡ 0) → Dec (p ≡ null K)
      by (yes e) = yes (size_null p e)
      by (no d) = no (λ e. d (ap (size K) e ∙ null_size))

  pub add_power_size : (c : F) (p : Polynomial K) (n : ℕ) → size K p ≤ n → size K (add_power K c p) ≤ suc n
  add_power_size c p n h = at_most (add_power K c p) (suc n) (λ k l. add_power_coefficient K c p k ∙ before_ends R c p.coefficient n (ends_at p n h) k l)

  pub drop_power_size : (p : Polynomial K) (n : ℕ) → size K p ≤ suc n → size K (drop_power K p) ≤ n
  drop_power_size p n h = at_most (drop_power K p) n (λ k l. drop_power_coefficient K p k ∙ p.exact.beyond (suc k) (omega arith))

  pub plus_size : (p q : Polynomial K) (n : ℕ) → size K p ≤ n → size K q ≤ n → size K (plus K p q) ≤ n
  plus_size p q n i j = at_most (plus K p q) n (λ k l.
      plus_coefficient K p q k ∙ ap₂ R.add (ends_at p n i k l) (ends_at q n j k l) ∙ laws.add_zero R.zero)

  pub minus_size : (p : Polynomial K) (n : ℕ) → size K p ≤ n → size K (minus K p) ≤ n
  minus_size p n i = at_most (minus K p) n (λ k l. minus_coefficient K p k ∙ ap R.neg (ends_at p n i k l) ∙ neg_zero laws)

  pub times_size : (p q : Polynomial K) (m n : ℕ) → size K p ≡ suc m → size K q ≡ suc n → size K (times K p q) ≡ suc (m + n)
  times_size p q m n d e = size_is (times K p q) (m + n) ends last
    where
      ends_p : Ends R p.coefficient (suc m)
      ends_p = ends_at p (suc m) (omega arith)

      ends_q : Ends R q.coefficient (suc n)
      ends_q = ends_at q (suc n) (omega arith)

      ends : Ends R (times K p q).coefficient (suc (m + n))
      ends k l = times_coefficient K p q k ∙ convolution_ends laws (suc m) n p.coefficient q.coefficient ends_p ends_q k (omega arith)

      last : (times K p q).coefficient (m + n) ≢ R.zero
      last z = field_mul_not_zero (p.coefficient m) (q.coefficient n) (p.exact.top m d) (q.exact.top n e)
          (sym (convolution_top laws m n p.coefficient q.coefficient ends_p ends_q) ∙ sym (times_coefficient K p q (m + n)) ∙ z)

  pub constant_size : (c : F) → (c ≢ R.zero) → size K (constant K c) ≡ 1
  constant_size c h = size_is (constant K c) 0
      (ends_at (constant K c) 1 (add_power_size c (null K) 0 (let z = null_size in omega arith)))
      (λ z. h (sym (add_power_coefficient K c (null K) 0) ∙ z))

  pub polynomial_domain : Domain (polynomials K)
  polynomial_domain = record {
    one_not_zero = not_null (constant K R.one) 0 (constant_size R.one K.one_not_zero);
    mul_not_zero = λ p q h d. let (m, i) = degree p h in let (n, j) = degree q d in not_null (times K p q) (m + n) (times_size p q m n i j);
  }

  -- a nonzero multiple of b has at least the size of b
  pub multiple_size : (q b : Polynomial K) → (times K q b ≢ null K) → size K b ≤ size K (times K q b)
  multiple_size q b h =
      let (m, i) = degree q (λ e. h (ap (λ t. times K t b) e ∙ zero_mul (polynomial_laws K) b)) in
      let (n, j) = degree b (λ e. h (ap (times K q) e ∙ mul_zero (polynomial_laws K) q)) in
      let s = times_size q b m n i j in
      omega arith
