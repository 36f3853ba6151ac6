-- Sequences of members: a member at each place 0, 1, 2, ..
--
--   Ends         zero from place n on
--   before       one member, and after it a sequence
--   convolution  at place k, the sum of f i * g j over all i + j = k
use Rattle.std.specs.Prelude.{◌≡◌, ℕ, zero, suc, ◌-◌, ◌≤◌}
use Rattle.algebra.specs.Ring.{Ring}
use Rattle.algebra.specs.Sum.{sum}

abbrev pub before : {A : Type 0} → A → (ℕ → A) → ℕ → A
before c f zero = c
before c f (suc k) = f k

module _ {A : Type 0} (R : Ring A) where
  abbrev pub Ends : (ℕ → A) → ℕ → Type 0
  Ends f n = (k : ℕ) → n ≤ k → f k ≡ R.zero

  abbrev pub convolution : (ℕ → A) → (ℕ → A) → ℕ → A
  convolution f g k = sum R (suc k) (λ i. R.mul (f i) (g (k - i)))
