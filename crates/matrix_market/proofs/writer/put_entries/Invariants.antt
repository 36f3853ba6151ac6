use Rattle.std.proofs.Common.{◌+◌, ◌*◌, ◌≤◌}
use Rattle.matrix_market.specs.Layout.{column}
use Rattle.matrix_market.specs.Stored.{Appends, members}
use Rattle.matrix_market.proofs.writer.put_entries.Given as goal

abbrev pub invariant-loop-k : goal.invariant-loop-k
invariant-loop-k l = record {
  appends : Appends l.at (column (members l.sizes.m l.table 0 l.k)) l.initial.out l.end l.out;
  bound : l.end ≤ l.at + 11 * l.k;
}
