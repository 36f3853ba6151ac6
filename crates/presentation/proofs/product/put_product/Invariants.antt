use Rattle.std.proofs.Common.{◌≡◌, length}
use Rattle.presentation.specs.Products.{Sums}
use Rattle.presentation.proofs.product.put_product.Given as goal

abbrev pub invariant-loop-j : goal.invariant-loop-j
invariant-loop-j g l = (length l.line ≡ 32) × Sums g.E.Ring.model (length l.row) l.row l.t l.j-counter l.line
