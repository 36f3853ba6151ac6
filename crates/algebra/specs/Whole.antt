-- The integers as a ring.
--
--   whole      the ring of the integers
use Rattle.std.specs.Prelude.{ℤ, pos, ◌+ℤ◌, ◌*ℤ◌, neg_ℤ}
use Rattle.algebra.specs.Ring.{Ring}

abbrev pub whole : Ring ℤ
whole = record { zero = pos 0; one = pos 1; add = ◌+ℤ◌; neg = neg_ℤ; mul = ◌*ℤ◌ }
