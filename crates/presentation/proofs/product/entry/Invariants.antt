use Rattle.std.proofs.Common.{◌≡◌}
use Rattle.presentation.specs.Products.{dot}
use Rattle.presentation.proofs.product.entry.Given as goal

abbrev pub invariant-loop-k : goal.invariant-loop-k
invariant-loop-k g l = let m = g.E.Ring.model in (m.count l.sum ≡ l.k) × (m.total l.sum ≡ dot m l.k l.row l.t l.j)
