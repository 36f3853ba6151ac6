use Rattle.std.proofs.Common.{◌∙◌, ◌*◌, arith}
use Rattle.std.proofs.lemmas.Result.{err_from_is_err_and}
use Rattle.matrix_market.specs.Layout.{entries}
use Rattle.matrix_market.specs.Reader.{left}
use Rattle.matrix_market.proofs.Filling.{fill_refused, fill_step}
use Rattle.matrix_market.proofs.reader.Body.fill.Goals as goal

pub returns-in_err-table : goal.returns-in_err-table
returns-in_err-table c =
    let p = err_from_is_err_and c.from_residual.result c.from_residual.ensures.1 in
    rw (p.1, p.2)
    (c.loop-k.invariant ∙ fill_refused _ c.loop-k.k (c.args.self.now.sizes.m * c.args.self.now.sizes.n) _ (λ i. entries c.loop-k.lines.number i (left c.loop-k.lines)) _ (omega arith) c.in_err-table.ensures)

pub loop-k-preserved : goal.loop-k-preserved
loop-k-preserved c =
    c.loop-k.invariant
    ∙ fill_step _ c.loop-k.k (c.args.self.now.sizes.m * c.args.self.now.sizes.n) _ _ _ (λ i. entries c.loop-k.lines.number i (left c.loop-k.lines)) (λ i. entries c.next_entry.new.lines.number i (left c.next_entry.new.lines)) (omega arith) c.in_ok-table.ensures c.place.ensures.value
