-- Division of polynomials: quotient and remainder exist, and are the only ones.
use Rattle.std.proofs.Common.{◌≡◌, ◌≢◌, ℕ, zero, suc, pred, ◌<◌, ◌≤◌, [], ◌∷◌, sym, refl, ap, ◌∙◌, ap₂, arith}
use Rattle.std.proofs.Math.Decide.{ℕ_discrete}
use Rattle.algebra.specs.Ring.{sub, Divides}
use Rattle.algebra.specs.Field.{Field}
use Rattle.algebra.proofs.Ring.{zero_mul, zero_add, sub_zero}
use Rattle.algebra.proofs.Divides.{one_remainder}
use Rattle.algebra.proofs.Solver.{ring, ring_by, reify}
use Rattle.polynomials.specs.Polynomial.{Polynomial, size, null, add_power, drop_power, constant, plus, minus, times, polynomials, long_division, quotient, remainder}
use Rattle.polynomials.proofs.Coefficients.{plus_coefficient, minus_coefficient}
use Rattle.polynomials.proofs.Laws.{polynomial_laws, constant_times}
use Rattle.polynomials.proofs.Powers.{variable, powers, add_power_is}
use Rattle.polynomials.proofs.Sizes.{at_most, null_size, size_null, degree, null?, add_power_size, drop_power_size, plus_size, minus_size, times_size}

module _ {F : Type 0} (K : Field F) where
  open K use {ring as R, laws}

  -- q and r divide a by b
  pub record Division (a b q r : Polynomial K) : Type 0 where
    pub is : a ≡ plus K (times K q b) r
    pub smaller : size K r < size K b

  -- one power more: from the division of a without its constant to that of a
  module _ (a b q r : Polynomial K) (d : ℕ) (e : size K b ≡ suc d) (h : Division (drop_power K a) b q r) where
    abbrev s : Polynomial K
    s = add_power K (a.coefficient 0) r

    abbrev c : F
    c = R.mul (s.coefficient d) (K.inverse (b.coefficient d))

    abbrev rest : Polynomial K
    rest = plus K s (minus K (times K (constant K c) b))

    division_is : a ≡ plus K (times K (add_power K c q) b) rest
    division_is =
        powers K a ∙ add_power_is K (a.coefficient 0) (drop_power K a)
        ∙ ap (λ t. plus K (constant K (a.coefficient 0)) (times K (variable K) t)) h.is
        ∙ ring (polynomial_laws K) (constant K (a.coefficient 0) ∷ variable K ∷ q ∷ b ∷ r ∷ constant K c ∷ [])
        {y = plus K (times K (plus K (constant K c) (times K (variable K) q)) b) (plus K (plus K (constant K (a.coefficient 0)) (times K (variable K) r)) (minus K (times K (constant K c) b)))} (search reify depth 20) refl
        ∙ ap₂ (λ t u. plus K (times K t b) (plus K u (minus K (times K (constant K c) b)))) (sym (add_power_is K c q)) (sym (add_power_is K (a.coefficient 0) r))

    rest_coefficient : (k : ℕ) → rest.coefficient k ≡ sub R (s.coefficient k) (R.mul c (b.coefficient k))
    rest_coefficient k = plus_coefficient K s (minus K (times K (constant K c) b)) k
        ∙ ap (R.add (s.coefficient k)) (minus_coefficient K (times K (constant K c) b) k ∙ ap R.neg (constant_times K c b k))

    top_cancels : R.mul c (b.coefficient d) ≡ s.coefficient d
    top_cancels = laws.mul_assoc (s.coefficient d) (K.inverse (b.coefficient d)) (b.coefficient d)
        ∙ ap (R.mul (s.coefficient d)) (laws.mul_comm (K.inverse (b.coefficient d)) (b.coefficient d) ∙ K.mul_inverse (b.coefficient d) (b.exact.top d e))
        ∙ laws.mul_one (s.coefficient d)

    above : (k : ℕ) → suc d ≤ k → s.coefficient k ≡ R.zero
    above k l = let u = add_power_size K (a.coefficient 0) r d (let z = h.smaller in omega arith) in s.exact.beyond k (omega arith)

    rest_ends : (k : ℕ) → d ≤ k → rest.coefficient k ≡ R.zero
    rest_ends k l = rest_coefficient k ∙ at (ℕ_discrete k d)
      where
        at : Dec (k ≡ d) → sub R (s.coefficient k) (R.mul c (b.coefficient k)) ≡ R.zero
        at (yes i) = ap (λ j. sub R (s.coefficient j) (R.mul c (b.coefficient j))) i ∙ ap (sub R (s.coefficient d)) top_cancels ∙ laws.add_neg (s.coefficient d)
        at (no i) = ap₂ (λ u v. sub R u (R.mul c v)) (above k (omega arith)) (b.exact.beyond k (omega arith)) ∙ ring laws (c ∷ []) (search reify depth 20) refl

    division_step : Division a b (add_power K c q) rest
    division_step = record { is = division_is; smaller = let l = at_most K rest d rest_ends in omega arith }

  long_division_divides : (n d : ℕ) (a b : Polynomial K) → size K a ≤ n → size K b ≡ suc d → Division a b (long_division K n d a b).0 (long_division K n d a b).1
  long_division_divides zero d a b h e = record {
    is = size_null K a (omega arith) ∙ sym (ap (λ t. plus K t (null K)) (zero_mul (polynomial_laws K) b) ∙ zero_add (polynomial_laws K) (null K));
    smaller = let z = null_size K in omega arith;
  }
  long_division_divides (suc n) d a b h e = division_step a b (long_division K n d (drop_power K a) b).0 (long_division K n d (drop_power K a) b).1 d e
      (long_division_divides n d (drop_power K a) b (drop_power_size K a n h) e)

  pub division : (a b : Polynomial K) → (b ≢ null K) → Division a b (quotient K a b) (remainder K a b)
  division a b h =
      let (d, e) = degree K b h in
      let p : size K b ≡ suc (pred (size K b)) = omega arith in
      long_division_divides (size K a) (pred (size K b)) a b (omega arith) p

  long_division_size : (n d : ℕ) (a b : Polynomial K) → size K (long_division K n d a b).0 ≤ n
  long_division_size zero d a b = let z = null_size K in omega arith
  long_division_size (suc n) d a b = add_power_size K _ (long_division K n d (drop_power K a) b).0 n (long_division_size n d (drop_power K a) b)

  pub quotient_size : (a b : Polynomial K) → size K (quotient K a b) ≤ size K a
  quotient_size a b = long_division_size (size K a) (pred (size K b)) a b

  -- two divisions of a by b are one
  pub division_once : (a b q r p s : Polynomial K) → (b ≢ null K) → Division a b q r → Division a b p s → (q ≡ p) × (r ≡ s)
  division_once a b q r p s h d e = (one_quotient, one_rest)
    where
      both : plus K (times K q b) r ≡ plus K (times K p b) s
      both = sym d.is ∙ e.is

      gap : Polynomial K
      gap = plus K q (minus K p)

      gap_times : times K gap b ≡ plus K s (minus K r)
      gap_times = ring_by (polynomial_laws K) (q ∷ b ∷ r ∷ p ∷ s ∷ []) (constant K R.one) both (search reify depth 20) refl

      gap_null : gap ≡ null K
      gap_null = by (null? K gap)
        where
          by : Dec (gap ≡ null K) → gap ≡ null K
          by (yes z) = z
          by (no z) =
              let (m, i) = degree K gap z in
              let (n, j) = degree K b h in
              let l = times_size K gap b m n i j in
              let u = plus_size K s (minus K r) n (let t = e.smaller in omega arith) (minus_size K r n (let t = d.smaller in omega arith)) in
              let v = ap (size K) gap_times in
              absurd (omega arith)

      one_quotient : q ≡ p
      one_quotient = sub_zero (polynomial_laws K) q p gap_null

      one_rest : r ≡ s
      one_rest = ring_by (polynomial_laws K) (times K q b ∷ r ∷ s ∷ []) (constant K R.one) (both ∙ ap (λ t. plus K (times K t b) s) (sym one_quotient)) (search reify depth 20) refl

  -- a multiple of b more is a multiple more in the quotient
  division_more : (a b c m q r : Polynomial K) → sub (polynomials K) a c ≡ times K m b → Division c b q r → Division a b (plus K q m) r
  division_more a b c m q r e d = record {
    is = ring_by (polynomial_laws K) (a ∷ c ∷ m ∷ b ∷ []) (constant K R.one) {y = plus K c (times K m b)} e (search reify depth 20) refl
        ∙ ap (λ t. plus K t (times K m b)) d.is
        ∙ ring (polynomial_laws K) (q ∷ b ∷ r ∷ m ∷ []) (search reify depth 20) refl;
    smaller = d.smaller;
  }

  pub same_remainder : (a b c : Polynomial K) → (b ≢ null K) → Divides (polynomials K) b (sub (polynomials K) a c) → remainder K a b ≡ remainder K c b
  same_remainder a b c h (m, e) =
      (division_once a b (quotient K a b) (remainder K a b) (plus K (quotient K c b) m) (remainder K c b) h (division a b h)
      (division_more a b c m (quotient K c b) (remainder K c b) e (division c b h))).1

  pub remainder_same : (a b c : Polynomial K) → (b ≢ null K) → remainder K a b ≡ remainder K c b → Divides (polynomials K) b (sub (polynomials K) a c)
  remainder_same a b c h e =
      one_remainder (polynomial_laws K) a c b (quotient K a b) (quotient K c b) (remainder K c b)
      ((division a b h).is ∙ ap (plus K (times K (quotient K a b) b)) e) (division c b h).is
