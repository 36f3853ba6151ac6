-- Kinds whose members are the polynomials over a field.
--
--   kind       the model of such a kind: its elements hold the polynomials of size `room` at most
use Rattle.std.specs.Prelude.{◌≡◌, ℕ, ◌≤◌}
use Rattle.algebra.specs.Field.{Field}
use Rattle.kinds.specs.Model.{Model}
use Rattle.polynomials.specs.Polynomial.{Polynomial, polynomials, size, quotient, remainder, leading, unit, inverse}

abbrev pub kind : {F E S : Type 0} (K : Field F) (room : ℕ) (mean : E → Polynomial K) (total : S → Polynomial K) (count : S → ℕ) → Model E S
kind K room mean total count = record {
  Member = Polynomial K;
  ring = polynomials K;
  Fits = λ a. size K a ≤ room;
  mean = mean;
  total = total;
  count = count;
  size = size K;
  quotient = quotient K;
  remainder = remainder K;
  Normal = λ a. leading K a ≡ K.ring.one;
  unit = unit K;
  inverse = inverse K;
}
