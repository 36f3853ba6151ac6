-- Lemmas on finite sums.
use Rattle.std.proofs.Common.{◌≡◌, ◌≢◌, ℕ, zero, suc, ◌+◌, ◌<◌, [], ◌∷◌, sym, refl, ap, ◌∙◌, ap₂, add-one, arith}
use Rattle.std.proofs.Math.Decide.{ℕ_discrete}
use Rattle.algebra.specs.Ring.{Ring, RingLaws}
use Rattle.algebra.specs.Sum.{sum}
use Rattle.algebra.proofs.Ring.{zero_add, mul_zero}
use Rattle.algebra.proofs.Solver.{ring, reify}

pub sum_more : {A : Type 0} (R : Ring A) (n : ℕ) (f : ℕ → A) → sum R (n + 1) f ≡ R.add (sum R n f) (f n)
sum_more R n f = rw add-one

pub sum_same : {A : Type 0} (R : Ring A) (n : ℕ) {f g : ℕ → A} → ((k : ℕ) → k < n → f k ≡ g k) → sum R n f ≡ sum R n g
sum_same R zero h = refl
sum_same R (suc n) h = ap₂ R.add (sum_same R n (λ k l. h k (omega arith))) (h n (omega arith))

module _ {A : Type 0} {R : Ring A} (laws : RingLaws R) where
  pub sum_zero : (n : ℕ) {f : ℕ → A} → ((k : ℕ) → k < n → f k ≡ R.zero) → sum R n f ≡ R.zero
  sum_zero zero h = refl
  sum_zero (suc n) h = ap₂ R.add (sum_zero n (λ k l. h k (omega arith))) (h n (omega arith)) ∙ laws.add_zero R.zero

  pub sum_add : (n : ℕ) (f g : ℕ → A) → sum R n (λ k. R.add (f k) (g k)) ≡ R.add (sum R n f) (sum R n g)
  sum_add zero f g = sym (laws.add_zero R.zero)
  sum_add (suc n) f g =
      ap (λ t. R.add t (R.add (f n) (g n))) (sum_add n f g)
      ∙ ring laws (sum R n f ∷ sum R n g ∷ f n ∷ g n ∷ []) (search reify depth 20) refl

  pub mul_sum : (c : A) (n : ℕ) (f : ℕ → A) → sum R n (λ k. R.mul c (f k)) ≡ R.mul c (sum R n f)
  mul_sum c zero f = sym (mul_zero laws c)
  mul_sum c (suc n) f = ap (λ t. R.add t (R.mul c (f n))) (mul_sum c n f) ∙ sym (laws.mul_add c (sum R n f) (f n))

  -- the first term apart
  pub sum_first : (n : ℕ) (f : ℕ → A) → sum R (suc n) f ≡ R.add (f 0) (sum R n (λ k. f (suc k)))
  sum_first zero f = laws.add_comm R.zero (f 0)
  sum_first (suc n) f = ap (λ t. R.add t (f (suc n))) (sum_first n f) ∙ laws.add_assoc (f 0) (sum R n (λ k. f (suc k))) (f (suc n))

  -- a sum of which all terms but one are zero
  pub sum_one : (n j : ℕ) {f : ℕ → A} → j < n → ((k : ℕ) → k < n → (k ≢ j) → f k ≡ R.zero) → sum R n f ≡ f j
  sum_one zero j l h = absurd (omega arith)
  sum_one (suc n) j {f} l h = last (ℕ_discrete n j) (sum_one n j)
    where
      last : Dec (n ≡ j) → (j < n → ((k : ℕ) → k < n → (k ≢ j) → f k ≡ R.zero) → sum R n f ≡ f j) → sum R (suc n) f ≡ f j
      last (yes e) before = ap₂ R.add (sum_zero n (λ k m. h k (omega arith) (λ d. omega arith))) (ap f e) ∙ zero_add laws (f j)
      last (no d) before = ap₂ R.add (before (omega arith) (λ k m. h k (omega arith))) (h n (omega arith) d) ∙ laws.add_zero (f j)
