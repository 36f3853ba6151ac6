use Rattle.std.proofs.Common.{◌≡◌, ◌-◌, ◌*◌}
use Rattle.matrix_market.specs.Layout.{entries}
use Rattle.matrix_market.specs.Reader.{left, filled_by}
use Rattle.matrix_market.specs.Stored.{filled}
use Rattle.matrix_market.proofs.reader.Body.fill.Given as goal

abbrev pub invariant-loop-k : goal.invariant-loop-k
invariant-loop-k l = filled_by l.self l.initial.table ≡ filled l.self.sizes.m l.k l.table (entries l.lines.number (l.self.sizes.m * l.self.sizes.n - l.k) (left l.lines))
