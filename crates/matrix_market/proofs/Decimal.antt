-- A number read digit by digit.
use Rattle.std.proofs.Common.{ℕ, ◌^◌, ◌<◌, ◌≤◌, arith}
use Rattle.std.proofs.Math.Nat.{pow-le-pow_right}

-- fewer digits give no greater number
pub below : (n i k : ℕ) → n < 10 ^ i → i ≤ k → n < 10 ^ k
below n i k l h = omega (arith, pow-le-pow_right {n = 10} (omega arith) h)
