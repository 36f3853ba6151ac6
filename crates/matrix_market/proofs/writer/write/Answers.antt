use Rattle.std.proofs.Common.{arith}
use Rattle.std.proofs.lemmas.Grind.{common_steps}
use Rattle.matrix_market.proofs.Pieces.{appends_then}
use Rattle.matrix_market.proofs.writer.write.Goals as goal

pub returns-clause-text : goal.returns-clause-text
returns-clause-text c =
    let given = rw c.in_ok-sizes.ensures.ok_part at c.new.ensures.given in (
      grind (arith, common_steps),
      rw (← given.0, ← given.1) (appends_then _ _ _ _ _ _ _ _ c.put_opening-end.ensures.appends c.put_entries.ensures.appends),
    )
