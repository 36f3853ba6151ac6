-- The field of two: false is zero, true is one.
--
--   differ       the sum of two members: whether they are not the same
--   two_ring     the ring of the two members
--   two_laws     its laws, by cases
--   own_inverse  one is its own inverse
--   two          the field
use Rattle.std.specs.Prelude.{◌≡◌, Bool, true, false, not, ◌&&◌, ◌≢◌, refl}
use Rattle.std.proofs.Math.Bool.{Bool-discrete}
use Rattle.std.proofs.lemmas.Bool.{true≢false}
use Rattle.algebra.specs.Ring.{Ring, RingLaws}
use Rattle.algebra.specs.Field.{Field}

abbrev pub differ : Bool → Bool → Bool
differ true b = not b
differ false b = b

abbrev pub two_ring : Ring Bool
two_ring = record { zero = false; one = true; add = differ; neg = λ x. x; mul = ◌&&◌ }

pub two_laws : RingLaws two_ring
two_laws = record {
  add_assoc = elim [ true ↦ elim [ true ↦ elim [ true ↦ refl | false ↦ refl ] | false ↦ λ z. refl ] | false ↦ λ y z. refl ];
  add_comm = elim [ true ↦ elim [ true ↦ refl | false ↦ refl ] | false ↦ elim [ true ↦ refl | false ↦ refl ] ];
  add_zero = elim [ true ↦ refl | false ↦ refl ];
  add_neg = elim [ true ↦ refl | false ↦ refl ];
  mul_assoc = elim [ true ↦ λ y z. refl | false ↦ λ y z. refl ];
  mul_comm = elim [ true ↦ elim [ true ↦ refl | false ↦ refl ] | false ↦ elim [ true ↦ refl | false ↦ refl ] ];
  mul_one = elim [ true ↦ refl | false ↦ refl ];
  mul_add = elim [ true ↦ λ y z. refl | false ↦ λ y z. refl ];
}

pub own_inverse : (x : Bool) → (x ≢ false) → x && x ≡ true
own_inverse true h = refl
own_inverse false h = absurd (h refl)

abbrev pub two : Field Bool
two = record { ring = two_ring; laws = two_laws; inverse = λ x. x; one_not_zero = true≢false; mul_inverse = own_inverse; same = Bool-discrete }
