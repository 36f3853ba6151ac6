use Rattle.std.proofs.Common.{arith}
use Rattle.matrix_market.proofs.Decimal.{below}
use Rattle.matrix_market.proofs.numbers.digits.Goals as goal

pub overflow_mul-n : goal.overflow_mul-n
overflow_mul-n c = omega (arith, below c.loop-c.n c.loop-c.c-index 17 c.loop-c.invariant.1 (omega arith))

pub overflow_add-n : goal.overflow_add-n
overflow_add-n c = omega (arith, below c.loop-c.n c.loop-c.c-index 17 c.loop-c.invariant.1 (omega arith), c.type_inv.ds c.loop-c.c-index)

pub returns-clause-bound : goal.returns-clause-bound
returns-clause-bound c = below c.loop-c.n c.loop-c.c-index 18 c.loop-c.invariant.1 (omega arith)
