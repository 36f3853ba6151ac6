use Rattle.std.proofs.Common.{subst, arith}
use Rattle.std.proofs.lemmas.Bool.Decides.{not_from_Decides}
use Rattle.presentation.specs.Rests.{DividedBy, member}
use Rattle.presentation.proofs.Scans.{numbers, within, seen_more}
use Rattle.presentation.proofs.prescribe.Open.first_undivided.Goals as goal

pub loop-j-preserved : goal.loop-j-preserved
loop-j-preserved g c =
    let m = g.E.Ring.model in
    let b = m.mean c.args.pivot.now.element in
    seen_more c.args.self.now c.loop-i.i c.loop-j.j (λ a d. DividedBy m b (member m c.args.w.now a d)) c.loop-j.invariant (subst (DividedBy m b) c.entry.ensures (c.divides.ensures.0 c.if-not-divides.false))

pub returns-then-not-divides : goal.returns-then-not-divides
returns-then-not-divides g c =
    let m = g.E.Ring.model in
    let b = m.mean c.args.pivot.now.element in
    let is = numbers c.self.view_is in
    record {
      inside = within c.args.self.now c.loop-i.i c.loop-j.j (omega arith) (omega arith) (omega arith) (omega arith);
      here = subst (λ x. ¬ (DividedBy m b x)) c.entry.ensures (not_from_Decides c.divides.result c.divides.ensures c.if-not-divides.true);
      before = c.loop-j.invariant;
    }
