use Rattle.matrix_market.proofs.Pieces.{appends_then}
use Rattle.matrix_market.proofs.writer.put_opening.Goals as goal

pub returns-clause-appends : goal.returns-clause-appends
returns-clause-appends c =
    appends_then _ _ _ _ _ _ _ _ c.put-end.ensures
    (appends_then _ _ _ _ _ _ _ _ c.put_number-end.ensures
    (appends_then _ _ _ _ _ _ _ _ c.put-end-2.ensures
    (appends_then _ _ _ _ _ _ _ _ c.put_number-end-2.ensures c.put.ensures)))
