use Rattle.std.proofs.Common.{◌≡◌}
use Rattle.polynomials.specs.Polynomial.{size, plus, times}
use Rattle.bit_polynomials.specs.Two.{two}
use Rattle.bit_polynomials.specs.Binary.{binary}
use Rattle.bit_polynomials.proofs.words.long_division.Given as goal

-- the quotient so far times b, and what is left, are a
abbrev pub invariant-loop-power : goal.invariant-loop-power
invariant-loop-power l = binary l.a ≡ plus two (times two (binary l.quotient) (binary l.b)) (binary l.left)

abbrev pub decreases-loop-power : goal.decreases-loop-power
decreases-loop-power l = size two (binary l.left)
