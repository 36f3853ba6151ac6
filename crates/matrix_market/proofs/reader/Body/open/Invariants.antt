use Rattle.std.proofs.Common.{◌≡◌, length}
use Rattle.matrix_market.specs.Layout.{body}
use Rattle.matrix_market.specs.Reader.{left}
use Rattle.matrix_market.proofs.reader.Body.open.Given as goal

abbrev pub invariant-loop-line : goal.invariant-loop-line
invariant-loop-line l = body l.fn.lines.number (left l.fn.lines) ≡ body l.lines.number (left l.lines)

abbrev pub decreases-loop-line : goal.decreases-loop-line
decreases-loop-line l = length l.lines.rest.now
