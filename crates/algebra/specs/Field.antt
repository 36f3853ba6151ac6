-- Fields.
--
--   Field      a commutative ring with decidable equality in which every nonzero member has an inverse
use Rattle.std.specs.Prelude.{◌≡◌, ◌≢◌}
use Rattle.algebra.specs.Ring.{Ring, RingLaws}

pub record Field (F : Type 0) : Type 0 where
  pub ring : Ring F
  pub laws : RingLaws ring
  pub inverse : F → F
  pub one_not_zero : ring.one ≢ ring.zero
  pub mul_inverse : (x : F) → (x ≢ ring.zero) → ring.mul x (inverse x) ≡ ring.one
  pub same : (x y : F) → Dec (x ≡ y)
