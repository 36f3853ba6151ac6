-- The polynomials over the field of two keep the laws of a kind. Proofs, here since the kind's impl names them.
--
--   range_laws     which members fit, and that each of those is meant by an element
--   size_laws      the Euclidean size
--   division_laws  quotient and remainder
--   normal_laws    one normal member among a member and its unit multiples
use Rattle.std.proofs.Common.{arith}
use Rattle.kinds.specs.Laws.{RangeLaws, SizeLaws, DivisionLaws, NormalLaws}
use Rattle.polynomials.proofs.Kind as polynomials
use Rattle.bit_polynomials.specs.Two.{two}
use Rattle.bit_polynomials.specs.Meaning.{bit_polynomials}
use Rattle.bit_polynomials.specs.MeaningLemmas.{mean_fits, held}

pub range_laws : RangeLaws bit_polynomials
range_laws = polynomials.range_laws two 32 _ _ _ (omega arith) mean_fits held

pub size_laws : SizeLaws bit_polynomials
size_laws = polynomials.size_laws two 32 _ _ _ (omega arith) mean_fits

pub division_laws : DivisionLaws bit_polynomials
division_laws = polynomials.division_laws two 32 _ _ _

pub normal_laws : NormalLaws bit_polynomials
normal_laws = polynomials.normal_laws two 32 _ _ _
