use Rattle.std.proofs.Common.{◌≡◌, refl, subst, arith}
use Rattle.presentation.proofs.Tables.{Crossed, crossed_none, crossed_more, grown}
use Rattle.presentation.proofs.table.grow.Goals as goal

pub loop-k-init : goal.loop-k-init
loop-k-init g c = crossed_none g.E.Ring.model _ _

pub loop-k-preserved : goal.loop-k-preserved
loop-k-preserved g c = crossed_more g.E.Ring.model _ _ _ _ _ (omega arith) (omega arith) (omega arith) c.set_zero.ensures c.loop-k.invariant

pub returns : goal.returns
returns g c =
    let m = g.E.Ring.model in
    let e : c.loop-k.k ≡ c.args.size = omega arith in
    grown m _ _ _ _ _ (omega arith) (omega arith) refl c.set_one.ensures (subst (λ k. Crossed m c.args.size k c.args.t.now c.loop-k.t) e c.loop-k.invariant)
