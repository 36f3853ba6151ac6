use Rattle.presentation.specs.Places.{Swapped}
use Rattle.presentation.proofs.table.swap_along.Given as goal

abbrev pub invariant-loop-k : goal.invariant-loop-k
invariant-loop-k g l = Swapped l.axis l.a l.b l.k l.initial.t l.t
