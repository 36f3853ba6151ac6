use Rattle.std.proofs.Common.{◌∙◌, arith}
use Rattle.presentation.proofs.Products.{dot_more}
use Rattle.presentation.proofs.product.entry.Goals as goal

pub loop-k-preserved : goal.loop-k-preserved
loop-k-preserved g c =
    let m = g.E.Ring.model in
    let took = c.in_ok-take.ensures in (
      omega arith,
      took.2 ∙ dot_more m c.loop-k.k c.args.j c.args.row.now c.args.t.now c.index-row-k.result _ _ (omega arith) c.index-row-k.is c.entry.ensures c.loop-k.invariant.1,
    )
