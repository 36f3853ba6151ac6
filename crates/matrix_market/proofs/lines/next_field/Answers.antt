use Rattle.std.proofs.Common.{sym, arith}
use Rattle.std.proofs.lemmas.Bool.{eqb-true, eqb-false}
use Rattle.std.proofs.lemmas.List.{take_rest}
use Rattle.matrix_market.proofs.Cuts.{no_field, field_cut}
use Rattle.matrix_market.proofs.lines.next_field.Goals as goal

pub returns-then-is_empty : goal.returns-then-is_empty
returns-then-is_empty c = no_field c.args.line.now c.blanks.result c.blanks.ensures.value (omega (arith, eqb-true _ _ (sym c.if-is_empty.ensures)))

pub returns : goal.returns
returns c =
    rw (c.split_at.ensures.front, c.split_at.ensures.back)
    (field_cut c.args.line.now _ c.blanks.result c.field_length.result c.blanks.ensures.value (take_rest c.args.line.now c.blanks.result) (omega (arith, eqb-false _ _ (sym c.if-is_empty.ensures))) c.field_length.ensures.value)
