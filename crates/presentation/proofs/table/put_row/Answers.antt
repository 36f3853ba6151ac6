use Rattle.presentation.proofs.Tables.{row_copied}
use Rattle.presentation.proofs.table.put_row.Goals as goal

pub returns : goal.returns
returns g c = row_copied c.args.i c.args.line.now c.args.t.now _ c.requires.long c.requires.row c.requires.few c.copy_from_slice.ensures.after
