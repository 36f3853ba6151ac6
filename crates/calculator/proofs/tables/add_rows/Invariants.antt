use Rattle.std.proofs.Common.{◌≡◌}
use Rattle.presentation.specs.Shapes.{shape}
use Rattle.calculator.proofs.tables.add_rows.Given as goal

abbrev pub invariant-loop-row : goal.invariant-loop-row
invariant-loop-row l = l.state ≡ shape l.row-index l.n 0
