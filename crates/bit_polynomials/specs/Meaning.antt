-- The polynomials over the field of two as a kind.
--
--   meaning         the member that an element means: the polynomial of its bits, or zero where it has more than 32
--                   (a stored word never has)
--   bit_polynomials the model of the kind: the polynomials of 32 coefficients at most fit
use Rattle.std.specs.Prelude.{if◌then◌else◌, nat_le}
use Rattle.kinds.specs.Model.{Model}
use Rattle.polynomials.specs.Polynomial.{Polynomial, null}
use Rattle.polynomials.specs.Kind.{kind}
use Rattle.bit_polynomials.specs.Two.{two}
use Rattle.bit_polynomials.specs.Binary.{binary}
use Rattle.bit_polynomials.specs.declared.BitPolynomial.{BitPolynomial}
use Rattle.bit_polynomials.specs.declared.sum.BitPolynomialSum.{BitPolynomialSum}

abbrev pub meaning : BitPolynomial → Polynomial two
meaning e = if nat_le e.bits 4294967295 then binary e.bits else null two

abbrev pub bit_polynomials : Model BitPolynomial BitPolynomialSum
bit_polynomials = kind two 32 meaning (λ s. binary s.total) (λ s. s.count)
