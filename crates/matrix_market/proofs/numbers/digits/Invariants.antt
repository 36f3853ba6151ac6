use Rattle.std.proofs.Common.{◌≡◌, ◌^◌, ◌<◌, drop}
use Rattle.matrix_market.specs.Layout.{number}
use Rattle.matrix_market.proofs.numbers.digits.Given as goal

abbrev pub invariant-loop-c : goal.invariant-loop-c
invariant-loop-c l = (number 0 l.ds ≡ number l.n (drop l.c-index l.ds)) × (l.n < 10 ^ l.c-index)
