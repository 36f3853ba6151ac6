use Rattle.matrix_market.proofs.Pieces.{appends_put}
use Rattle.matrix_market.proofs.writer.put.Goals as goal

pub returns : goal.returns
returns c = appends_put c.args.at c.args.bytes.now c.args.out.now c.copy_from_slice.new.self c.copy_from_slice.ensures.after c.requires
