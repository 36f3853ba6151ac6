-- Polynomials by their coefficients: those with the same coefficients are equal.
use Rattle.std.proofs.Common.{◌≡◌, ◌≢◌, ℕ, zero, suc, ◌≤◌, refl, arith}
use mathlib.Core.Path.{fun_ext}
use mathlib.Core.HLevel.{is_prop→PathP, Π_prop, ¬_prop, hedberg}
use Rattle.std.proofs.Math.Decide.{dec_le}
use Rattle.algebra.specs.Field.{Field}
use Rattle.algebra.specs.Sequence.{Ends, before, convolution}
use Rattle.polynomials.specs.Polynomial.{Sized, Polynomial, null, add_power, drop_power, plus, minus, times}

module _ {F : Type 0} (K : Field F) where
  open K use {ring as R}

  pub size_at_most : (f : ℕ → F) (e : Sized K f) (n : ℕ) → Ends R f n → e.size ≤ n
  size_at_most f e n h = by e.size refl
    where
      last : (k : ℕ) → e.size ≡ suc k → Dec (n ≤ k) → e.size ≤ n
      last k d (yes l) = absurd (e.top k d (h k l))
      last k d (no l) = omega arith

      by : (s : ℕ) → e.size ≡ s → e.size ≤ n
      by zero d = omega arith
      by (suc k) d = last k d (dec_le n k)

  one_size : (f : ℕ → F) (d e : Sized K f) → d.size ≡ e.size
  one_size f d e = let p = size_at_most f d e.size e.beyond in let q = size_at_most f e d.size d.beyond in omega arith

  field_set : IsSet F
  field_set = hedberg K.same

  size_prop : (f : ℕ → F) → IsProp (Sized K f)
  size_prop f d e = λ i. record {
    size = s i;
    beyond = is_prop→PathP (λ i. Ends R f (s i)) (λ i. Π_prop (λ k. Π_prop (λ _. field_set (f k) R.zero))) d.beyond e.beyond i;
    top = is_prop→PathP (λ i. (k : ℕ) → s i ≡ suc k → f k ≢ R.zero) (λ i. Π_prop (λ k. Π_prop (λ _. ¬_prop))) d.top e.top i;
  }
    where
      s : d.size ≡ e.size
      s = one_size f d e

  pub same_coefficients : (p q : Polynomial K) → ((k : ℕ) → p.coefficient k ≡ q.coefficient k) → p ≡ q
  same_coefficients p q h = λ i. record {
    coefficient = c i;
    exact = is_prop→PathP (λ i. Sized K (c i)) (λ i. size_prop (c i)) p.exact q.exact i;
  }
    where
      c : p.coefficient ≡ q.coefficient
      c = fun_ext h

  pub null_coefficient : (k : ℕ) → (null K).coefficient k ≡ R.zero
  unfolding null
  null_coefficient k = refl

  pub add_power_coefficient : (c : F) (p : Polynomial K) (k : ℕ) → (add_power K c p).coefficient k ≡ before c p.coefficient k
  unfolding add_power
  add_power_coefficient c p k = refl

  pub drop_power_coefficient : (p : Polynomial K) (k : ℕ) → (drop_power K p).coefficient k ≡ p.coefficient (suc k)
  unfolding drop_power
  drop_power_coefficient p k = refl

  pub plus_coefficient : (p q : Polynomial K) (k : ℕ) → (plus K p q).coefficient k ≡ R.add (p.coefficient k) (q.coefficient k)
  unfolding plus
  plus_coefficient p q k = refl

  pub minus_coefficient : (p : Polynomial K) (k : ℕ) → (minus K p).coefficient k ≡ R.neg (p.coefficient k)
  unfolding minus
  minus_coefficient p k = refl

  pub times_coefficient : (p q : Polynomial K) (k : ℕ) → (times K p q).coefficient k ≡ convolution R p.coefficient q.coefficient k
  unfolding times
  times_coefficient p q k = refl
