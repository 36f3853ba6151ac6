use Rattle.std.proofs.Common.{ap, ◌∙◌, arith}
use Rattle.std.proofs.lemmas.Bool.Decides.{not_from_Decides}
use Rattle.presentation.proofs.Scans.{numbers, within, better, no_better}
use Rattle.presentation.proofs.prescribe.Open.pivot.Goals as goal

pub loop-j-preserved : goal.loop-j-preserved
loop-j-preserved g c =
    let m = g.E.Ring.model in
    let s = c.args.self.now in
    let i = c.loop-i.i in
    let j = c.loop-j.j in
    let least = c.loop-j.least in
    let is = numbers c.self.view_is in
    let size = c.size-size.result in
    let size_is = c.size-size.ensures ∙ ap m.size c.entry.ensures in
    elim c.if-is_better.branch [
      | goal.then-is_better v ↦
          rw v.least-is
          (better m s c.args.w.now g.met.E.Ring.size i j size least (within s i j (omega arith) (omega arith) (omega arith) (omega arith)) size_is (c.is_better.ensures.0 v.if-is_better.true))
      | goal.else-is_better v ↦
          rw v.least-is (no_better m s c.args.w.now g.met.E.Ring.size i j size least size_is (not_from_Decides c.is_better.result c.is_better.ensures v.if-is_better.false) c.loop-j.invariant)
    ]
