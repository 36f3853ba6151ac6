-- The sizes of a matrix that fits.
--
--   in_bounds   whether sizes are in bounds: at most 32 rows, and 1 to 32 columns
--   Bounded     that they are
--   place       where entry number k of a matrix of m rows stands: row k % m, column k / m, in rows of 32
use Rattle.std.specs.Prelude.{ℕ, ◌+◌, ◌*◌, ◌/◌, ◌%◌, ◌≤◌, Bool, ◌&&◌, nat_le}

abbrev pub in_bounds : ℕ → ℕ → Bool
in_bounds m n = nat_le m 32 && (nat_le 1 n && nat_le n 32)

abbrev pub Bounded : ℕ → ℕ → Type 0
Bounded m n = (m ≤ 32) × (1 ≤ n) × (n ≤ 32)

abbrev pub place : ℕ → ℕ → ℕ
place m k = 32 * (k % m) + k / m
