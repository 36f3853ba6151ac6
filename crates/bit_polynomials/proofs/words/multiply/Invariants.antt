use Rattle.std.proofs.Common.{◌≡◌}
use Rattle.polynomials.specs.Polynomial.{size, plus, times}
use Rattle.bit_polynomials.specs.Two.{two}
use Rattle.bit_polynomials.specs.Binary.{binary}
use Rattle.bit_polynomials.proofs.words.multiply.Given as goal

-- what was added, and what is left of a times b, is a times b
abbrev pub invariant-loop-power : goal.invariant-loop-power
invariant-loop-power l = plus two (binary l.total) (times two (binary l.left) (binary l.b)) ≡ times two (binary l.a) (binary l.b)

abbrev pub decreases-loop-power : goal.decreases-loop-power
decreases-loop-power l = size two (binary l.left)
