-- The convolution of sequences: the laws of a commutative product, and where it ends.
use Rattle.std.proofs.Common.{◌≡◌, ℕ, zero, suc, ◌+◌, ◌-◌, ◌<◌, ◌≤◌, [], ◌∷◌, sym, refl, ap, ◌∙◌, ap₂, arith}
use Rattle.std.proofs.Math.Decide.{dec_le}
use Rattle.algebra.specs.Ring.{Ring, RingLaws}
use Rattle.algebra.specs.Sequence.{Ends, convolution}
use Rattle.algebra.proofs.Ring.{add_mul, mul_zero, zero_mul, zero_add}
use Rattle.algebra.proofs.Solver.{ring, reify}
use Rattle.algebra.proofs.Sum.{sum_same, sum_zero, sum_one, sum_add, sum_first, mul_sum}

-- a sequence without its first place
abbrev tail : {A : Type 0} → (ℕ → A) → ℕ → A
tail f k = f (suc k)

module _ {A : Type 0} {R : Ring A} (laws : RingLaws R) where
  infixl 60 ◌⊞◌
  infixl 70 ◌⊡◌
  open R use {add as ◌⊞◌, mul as ◌⊡◌}

  pub convolution_start : (f g : ℕ → A) → convolution R f g 0 ≡ f 0 ⊡ g 0
  convolution_start f g = zero_add laws (f 0 ⊡ g 0)

  -- the term of f 0 apart
  pub first_term : (f g : ℕ → A) (k : ℕ) → convolution R f g (suc k) ≡ f 0 ⊡ g (suc k) ⊞ convolution R (tail f) g k
  first_term f g k = sum_first laws (suc k) (λ i. f i ⊡ g (suc k - i))
      ∙ ap₂ ◌⊞◌ (let e : suc k - 0 ≡ suc k = omega arith in ap (λ j. f 0 ⊡ g j) e)
      (sum_same R (suc k) (λ i l. let e : suc k - suc i ≡ k - i = omega arith in ap (λ j. f (suc i) ⊡ g j) e))

  -- the term of g 0 apart
  last_term : (f g : ℕ → A) (k : ℕ) → convolution R f g (suc k) ≡ convolution R f (tail g) k ⊞ f (suc k) ⊡ g 0
  last_term f g k = ap₂ ◌⊞◌
      (sum_same R (suc k) (λ i l. let e : suc k - i ≡ suc (k - i) = omega arith in ap (λ j. f i ⊡ g j) e))
      (let e : suc k - suc k ≡ 0 = omega arith in ap (λ j. f (suc k) ⊡ g j) e)

  convolution_same : (f g h : ℕ → A) (k : ℕ) → ((i : ℕ) → f i ≡ g i) → convolution R f h k ≡ convolution R g h k
  convolution_same f g h k e = sum_same R (suc k) (λ i l. ap (λ x. x ⊡ h (k - i)) (e i))

  pub add_convolution : (f g h : ℕ → A) (k : ℕ) → convolution R (λ i. f i ⊞ g i) h k ≡ convolution R f h k ⊞ convolution R g h k
  add_convolution f g h k = sum_same R (suc k) (λ i l. add_mul laws (f i) (g i) (h (k - i))) ∙ sum_add laws (suc k) (λ i. f i ⊡ h (k - i)) (λ i. g i ⊡ h (k - i))

  mul_convolution : (c : A) (f h : ℕ → A) (k : ℕ) → convolution R (λ i. c ⊡ f i) h k ≡ c ⊡ convolution R f h k
  mul_convolution c f h k = sum_same R (suc k) (λ i l. laws.mul_assoc c (f i) (h (k - i))) ∙ mul_sum laws c (suc k) (λ i. f i ⊡ h (k - i))

  pub convolution_comm : (f g : ℕ → A) (k : ℕ) → convolution R f g k ≡ convolution R g f k
  convolution_comm f g zero = convolution_start f g ∙ laws.mul_comm (f 0) (g 0) ∙ sym (convolution_start g f)
  convolution_comm f g (suc k) =
      first_term f g k ∙ ap₂ ◌⊞◌ (laws.mul_comm (f 0) (g (suc k))) (convolution_comm (tail f) g k)
      ∙ laws.add_comm (g (suc k) ⊡ f 0) (convolution R g (tail f) k) ∙ sym (last_term g f k)

  pub convolution_assoc : (f g h : ℕ → A) (k : ℕ) → convolution R (convolution R f g) h k ≡ convolution R f (convolution R g h) k
  convolution_assoc f g h zero =
      convolution_start (convolution R f g) h ∙ ap (λ t. t ⊡ h 0) (convolution_start f g) ∙ laws.mul_assoc (f 0) (g 0) (h 0)
      ∙ sym (convolution_start f (convolution R g h) ∙ ap (◌⊡◌ (f 0)) (convolution_start g h))
  convolution_assoc f g h (suc k) =
      first_term (convolution R f g) h k
      ∙ ap₂ ◌⊞◌ (ap (λ t. t ⊡ h (suc k)) (convolution_start f g))
      (convolution_same (tail (convolution R f g)) (λ i. f 0 ⊡ g (suc i) ⊞ convolution R (tail f) g i) h k (first_term f g)
      ∙ add_convolution (λ i. f 0 ⊡ g (suc i)) (convolution R (tail f) g) h k
      ∙ ap₂ ◌⊞◌ (mul_convolution (f 0) (tail g) h k) (convolution_assoc (tail f) g h k))
      ∙ ring laws (f 0 ∷ g 0 ∷ h (suc k) ∷ convolution R (tail g) h k ∷ convolution R (tail f) (convolution R g h) k ∷ [])
      {y = f 0 ⊡ (g 0 ⊡ h (suc k) ⊞ convolution R (tail g) h k) ⊞ convolution R (tail f) (convolution R g h) k} (search reify depth 20) refl
      ∙ sym (first_term f (convolution R g h) k ∙ ap (λ t. f 0 ⊡ t ⊞ convolution R (tail f) (convolution R g h) k) (first_term g h k))

  -- a term i + j = k is zero unless i is below m and j at most n
  outside : (m n i j : ℕ) (f g : ℕ → A) → Ends R f m → Ends R g (suc n) → (i < m → n < j) → f i ⊡ g j ≡ R.zero
  outside m n i j f g p q l = by (dec_le m i)
    where
      by : Dec (m ≤ i) → f i ⊡ g j ≡ R.zero
      by (yes h) = ap (λ t. t ⊡ g j) (p i h) ∙ zero_mul laws (g j)
      by (no h) = let b = l (omega arith) in ap (λ t. f i ⊡ t) (q j (omega arith)) ∙ mul_zero laws (f i)

  pub convolution_ends : (m n : ℕ) (f g : ℕ → A) → Ends R f m → Ends R g (suc n) → Ends R (convolution R f g) (m + n)
  convolution_ends m n f g p q k l = sum_zero laws (suc k) (λ i b. outside m n i (k - i) f g p q (λ s. omega arith))

  -- the last place of a convolution
  pub convolution_top : (m n : ℕ) (f g : ℕ → A) → Ends R f (suc m) → Ends R g (suc n) → convolution R f g (m + n) ≡ f m ⊡ g n
  convolution_top m n f g p q =
      sum_one laws (suc (m + n)) m (omega arith) (λ i b d. outside (suc m) n i (m + n - i) f g p q (λ s. omega arith))
      ∙ (let e : m + n - m ≡ n = omega arith in ap (λ j. f m ⊡ g j) e)

  -- a sequence of one place multiplies each place
  pub convolution_constant : (f g : ℕ → A) (k : ℕ) → Ends R f 1 → convolution R f g k ≡ f 0 ⊡ g k
  convolution_constant f g k p =
      sum_one laws (suc k) 0 (omega arith) (λ i b d. ap (λ t. t ⊡ g (k - i)) (p i (omega arith)) ∙ zero_mul laws (g (k - i)))
      ∙ (let e : k - 0 ≡ k = omega arith in ap (λ j. f 0 ⊡ g j) e)
