use Rattle.std.proofs.Common.{arith}
use Rattle.presentation.proofs.Steps.{same_then}
use Rattle.presentation.proofs.Tables.{identity_more}
use Rattle.presentation.proofs.state.calls.open.Goals as goal

pub loop-k-preserved : goal.loop-k-preserved
loop-k-preserved g c =
    let m = g.E.Ring.model in
    let before = c.loop-k.invariant in
    let old = c.loop-k.right in
    let new = c.grow.new.self in
    let long = c.is_short.ensures.long c.if-is_short.false in
    let same = c.grow.ensures.same in
    record {
      same = same_then before.same same;
      matrix = identity_more m c.loop-k.k c.args.right.now.matrix.now old.matrix.now new.matrix.now (omega arith) (omega (arith, before.same.matrix_length)) same.matrix_length c.grow.ensures.matrix before.matrix;
      inverse = identity_more m c.loop-k.k c.args.right.now.inverse.now old.inverse.now new.inverse.now (omega arith) (omega (arith, before.same.inverse_length)) same.inverse_length c.grow.ensures.inverse before.inverse;
    }
