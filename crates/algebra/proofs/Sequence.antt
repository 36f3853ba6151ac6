-- Where sequences end.
use Rattle.std.proofs.Common.{◌≡◌, ℕ, zero, suc, ap, ◌∙◌, arith}
use Rattle.std.proofs.Math.Decide.{ℕ_discrete}
use Rattle.algebra.specs.Ring.{Ring}
use Rattle.algebra.specs.Sequence.{Ends, before}

module _ {A : Type 0} (R : Ring A) where
  pub ends_sooner : (f : ℕ → A) (n : ℕ) → f n ≡ R.zero → Ends R f (suc n) → Ends R f n
  ends_sooner f n e h k l = at (ℕ_discrete k n)
    where
      at : Dec (k ≡ n) → f k ≡ R.zero
      at (yes d) = ap f d ∙ e
      at (no d) = h k (omega arith)

  pub before_ends : (c : A) (f : ℕ → A) (n : ℕ) → Ends R f n → Ends R (before c f) (suc n)
  before_ends c f n h zero l = absurd (omega arith)
  before_ends c f n h (suc k) l = h k (omega arith)
