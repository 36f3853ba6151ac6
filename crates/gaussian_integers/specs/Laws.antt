-- The Gaussian integers keep the laws of a kind. Proofs, here since the kind's impl names them.
--
--   range_laws     which members fit, and that each of those is meant by an element
--   size_laws      the Euclidean size
--   division_laws  quotient and remainder
--   normal_laws    one normal member among a member and its unit multiples
use Rattle.std.specs.Prelude.{refl}
use Rattle.std.proofs.Common.{◌∙◌, arith}
use Rattle.std.proofs.lemmas.Bool.Decides.{nat_tests}
use Rattle.kinds.specs.Laws.{RangeLaws, SizeLaws, DivisionLaws, NormalLaws}
use Rattle.gaussian_integers.specs.declared.GaussianInteger.{GaussianInteger}
use Rattle.gaussian_integers.specs.Meaning.{gaussians, meaning, Fits}
use Rattle.gaussian_integers.specs.Norms.{zero_size, size_multiple, size_within}
use Rattle.gaussian_integers.specs.Division.{divides, smaller, same_remainder, remainder_same}
use Rattle.gaussian_integers.specs.Units.{unit_within, unit_inverse, unit_normal, normal_once}
use Rattle.gaussian_integers.specs.Bounds.{quotient_within, remainder_within}

mean_fits : (e : GaussianInteger) → Fits (meaning e)
mean_fits e = (grind (arith, nat_tests), grind (arith, nat_tests))

pub range_laws : RangeLaws gaussians
range_laws = record {
  zero_fits = (omega arith, omega arith);
  one_fits = (omega arith, omega arith);
  unit_fits = λ u a v. unit_within 268435455 a u v.0 v.1;
  mean_fits = mean_fits;
  held = λ a f. (record { re = a.re; im = a.im }, grind (arith, nat_tests));
}

pub size_laws : SizeLaws gaussians
size_laws = record {
  size_zero = refl;
  zero_size = zero_size;
  size_small = λ e. omega (arith, size_within 268435455 (meaning e) (mean_fits e));
  size_multiple = λ a b h m. rw m.1 (size_multiple m.0 b (λ e. h (m.1 ∙ e)));
}

pub division_laws : DivisionLaws gaussians
division_laws = record {
  divides = λ a b h. divides a b;
  smaller = smaller;
  quotient_fits = λ a b h f g. quotient_within 268435455 a b h f;
  remainder_fits = λ a b h f g. remainder_within 268435455 a b h g;
  same_remainder = same_remainder;
  remainder_same = λ a b c h. remainder_same a b c;
}

pub normal_laws : NormalLaws gaussians
normal_laws = record {
  unit_inverse = unit_inverse;
  unit_zero = refl;
  inverse_zero = refl;
  normal = unit_normal;
  normal_once = λ a u v. normal_once a u v.0 v.1;
}
