use Rattle.std.proofs.Common.{rules, sym, length, arith}
use Rattle.std.proofs.lemmas.Bool.{eqb-false}
use Rattle.matrix_market.proofs.Cuts.{feed_at, none_at, line_cut, line_whole}
use Rattle.matrix_market.proofs.lines.first_line.Goals as goal

pub returns-in-Some-clause-cut : goal.returns-in-Some-clause-cut
returns-in-Some-clause-cut c = line_cut c.args.text.now c.in-Some.end (feed_at c.args.text.now c.in-Some.end (search rules) (search rules) (search rules)) (search rules)

pub returns-in-None-clause-cut : goal.returns-in-None-clause-cut
returns-in-None-clause-cut c = rw (c.last_line.ensures.line, c.last_line.ensures.rest) (line_whole c.args.text.now (length c.args.text.now) (none_at c.args.text.now (search rules)) (omega (arith, eqb-false _ _ (sym c.if-is_empty.ensures))) (omega arith))
