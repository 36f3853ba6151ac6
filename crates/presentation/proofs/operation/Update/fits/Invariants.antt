use Rattle.presentation.specs.Operations.{FitUpdate}
use Rattle.presentation.proofs.operation.Update.fits.Given as goal

abbrev pub invariant-loop-k : goal.invariant-loop-k
invariant-loop-k g l = FitUpdate g.E.Ring.model l.self l.axis l.k-counter l.t
