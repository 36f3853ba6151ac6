use Rattle.presentation.specs.Rests.{DividedBy, member}
use Rattle.presentation.proofs.Scans.{Seen}
use Rattle.presentation.proofs.prescribe.Open.first_undivided.Given as goal

abbrev pub invariant-loop-i : goal.invariant-loop-i
invariant-loop-i g l = let m = g.E.Ring.model in Seen l.self l.i l.self.c (λ a b. DividedBy m (m.mean l.pivot.element) (member m l.w a b))

abbrev pub invariant-loop-j : goal.invariant-loop-j
invariant-loop-j g l = let m = g.E.Ring.model in Seen l.self l.i l.j (λ a b. DividedBy m (m.mean l.pivot.element) (member m l.w a b))
