use Rattle.presentation.specs.Lent.{Same}
use Rattle.presentation.specs.Places.{Identity}
use Rattle.presentation.proofs.state.calls.open.Given as goal

abbrev pub invariant-loop-k : goal.invariant-loop-k
invariant-loop-k g l =
    record {
      same : Same l.initial.right l.right;
      matrix : Identity g.E.Ring.model l.k l.initial.right.matrix.now l.right.matrix.now;
      inverse : Identity g.E.Ring.model l.k l.initial.right.inverse.now l.right.inverse.now;
    }
