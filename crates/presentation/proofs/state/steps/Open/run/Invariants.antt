use Rattle.presentation.specs.Calls.{LongStep, Reach}
use Rattle.presentation.specs.Lent.{Same, lent_step}
use Rattle.presentation.specs.Shapes.{Bounded}
use Rattle.presentation.proofs.state.steps.Open.run.Given as goal

abbrev pub invariant-loop-count : goal.invariant-loop-count
invariant-loop-count g l =
    record {
      left : Same l.initial.left l.left;
      right : Same l.initial.right l.right;
      long : LongStep (lent_step l.work l.left l.right);
      bounded : Bounded l.state;
      reach : Reach g.E.Ring.model l.fn.self (lent_step l.initial.work l.initial.left l.initial.right) l.count l.state (lent_step l.work l.left l.right);
    }
