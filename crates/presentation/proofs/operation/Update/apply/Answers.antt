use Rattle.std.proofs.Common.{sym, ◌∙◌, subst, arith}
use Rattle.presentation.proofs.Updates.{entry_still, changed_more}
use Rattle.presentation.proofs.operation.Update.apply.Goals as goal

pub loop-k-preserved : goal.loop-k-preserved
loop-k-preserved g c =
    changed_more g.E.Ring.model c.args.self.now c.args.axis c.loop-k.k c.place.result c.args.t.now c.loop-k.t c.in-Ok.z
    (omega arith) (omega arith) (omega arith) c.place.ensures.value
    (c.in-Ok.ensures ∙ entry_still g.E.Ring.model c.args.self.now c.args.axis c.loop-k.k c.args.t.now c.loop-k.t (omega arith) (omega arith) (omega arith) (omega arith) (omega arith) c.loop-k.invariant)
    c.loop-k.invariant

pub unreachable-requires : goal.unreachable-requires
unreachable-requires g c =
    c.in-Err.ensures.1
    (subst g.E.Ring.model.Fits
    (sym (entry_still g.E.Ring.model c.args.self.now c.args.axis c.loop-k.k c.args.t.now c.loop-k.t (omega arith) (omega arith) (omega arith) (omega arith) (omega arith) c.loop-k.invariant))
    (c.requires.fit c.loop-k.k (omega arith)))
