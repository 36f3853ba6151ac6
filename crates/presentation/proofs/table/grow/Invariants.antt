use Rattle.presentation.proofs.Tables.{Crossed}
use Rattle.presentation.proofs.table.grow.Given as goal

abbrev pub invariant-loop-k : goal.invariant-loop-k
invariant-loop-k g l = Crossed g.E.Ring.model l.size l.k l.initial.t l.t
