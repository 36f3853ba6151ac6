-- Finite sums of members.
--
--   sum        f 0 + .. + f (n - 1)
use Rattle.std.specs.Prelude.{ℕ, zero, suc}
use Rattle.algebra.specs.Ring.{Ring}

abbrev pub sum : {A : Type 0} → Ring A → ℕ → (ℕ → A) → A
sum R zero f = R.zero
sum R (suc n) f = R.add (sum R n f) (f n)
