-- The Gaussian integers as a kind.
--
--   meaning    the member that an element means: its parts, or zero where one is out of range
--   Fits       both parts are at most 268435455 in magnitude
--   gaussians  the model of the kind
use Rattle.std.specs.Prelude.{if◌then◌else◌, ◌&&◌, nat_le, unsigned_abs}
use Rattle.kinds.specs.Model.{Model}
use Rattle.gaussian_integers.specs.declared.GaussianInteger.{GaussianInteger}
use Rattle.gaussian_integers.specs.declared.sum.GaussianSum.{GaussianSum}
use Rattle.gaussian_integers.specs.Gaussian.{Gaussian, gauss, gaussian, size, quotient, remainder, Within, Normal, unit, inverse}
use Rattle.gaussian_integers.specs.Parts.{value}

abbrev pub meaning : GaussianInteger → Gaussian
meaning e = if nat_le (unsigned_abs e.re) 268435455 && nat_le (unsigned_abs e.im) 268435455 then gauss e.re e.im else gaussian.zero

abbrev pub Fits : Gaussian → Type 0
Fits a = Within 268435455 a

abbrev pub gaussians : Model GaussianInteger GaussianSum
gaussians = record {
  Member = Gaussian;
  ring = gaussian;
  Fits = Fits;
  mean = meaning;
  total = λ s. value s.total;
  count = λ s. s.count;
  size = size;
  quotient = quotient;
  remainder = remainder;
  Normal = Normal;
  unit = unit;
  inverse = inverse;
}
