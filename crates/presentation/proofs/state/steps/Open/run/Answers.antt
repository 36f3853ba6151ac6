use Rattle.std.proofs.Common.{subst, sym}
use Rattle.presentation.specs.Calls.Reach.{start, more}
use Rattle.presentation.specs.Shapes.{Bounded}
use Rattle.presentation.proofs.Steps.{same_none, same_then, long_still, still_bounded}
use Rattle.presentation.proofs.state.steps.Open.run.Goals as goal

pub loop-count-init : goal.loop-count-init
loop-count-init g c = record { left = same_none _; right = same_none _; long = c.is_short.ensures.long c.if-is_short.false; bounded = c.bounds.ensures; reach = start }

pub loop-count-preserved : goal.loop-count-preserved
loop-count-preserved g c =
    let before = c.loop-count.invariant in
    let performed = c.in-Ok.ensures in
    record {
      left = same_then before.left performed.left;
      right = same_then before.right performed.right;
      long = long_still c.perform.auto.work performed.left performed.right before.long;
      bounded = subst Bounded (sym c.after-state.ensures) (still_bounded _ c.in-Some.line c.in-Some.ensures before.bounded);
      reach = more _ _ _ _ _ before.reach (record { line = c.in-Some.line; placed = c.in-Some.ensures; made = performed.outcome; shape_is = c.after-state.ensures });
    }
