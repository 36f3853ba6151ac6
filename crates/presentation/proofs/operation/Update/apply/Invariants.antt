use Rattle.presentation.specs.Operations.{Changed}
use Rattle.presentation.proofs.operation.Update.apply.Given as goal

abbrev pub invariant-loop-k : goal.invariant-loop-k
invariant-loop-k g l = Changed g.E.Ring.model l.self l.axis l.k l.initial.t l.t
