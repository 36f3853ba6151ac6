use Rattle.std.proofs.Common.{arith}
use Rattle.presentation.proofs.Tables.{swapped_none, swapped_more}
use Rattle.presentation.proofs.table.swap_along.Goals as goal

pub loop-k-init : goal.loop-k-init
loop-k-init g c = swapped_none _ _ _ _

pub loop-k-preserved : goal.loop-k-preserved
loop-k-preserved g c =
    let x = c.swap.ensures.by_index in
    swapped_more _ _ _ _ _ _ _ _ _ (omega arith) (omega arith) (omega arith) c.place.ensures.value c.place-in-loop-k.ensures.value (x.0, x.1, x.2) c.loop-k.invariant
