use Rattle.presentation.proofs.Scans.{SoFar}
use Rattle.presentation.proofs.prescribe.Open.pivot.Given as goal

abbrev pub invariant-loop-i : goal.invariant-loop-i
invariant-loop-i g l = SoFar g.E.Ring.model l.self l.w l.i l.self.c l.least

abbrev pub invariant-loop-j : goal.invariant-loop-j
invariant-loop-j g l = SoFar g.E.Ring.model l.self l.w l.i l.j l.least
