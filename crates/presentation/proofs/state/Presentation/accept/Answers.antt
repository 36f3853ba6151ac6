use Rattle.std.proofs.Common.{length, take, subst, arith}
use Rattle.presentation.specs.Calls.{Accepting}
use Rattle.presentation.specs.Lent.{lent_add}
use Rattle.presentation.proofs.Accepting.{accepting_take}
use Rattle.presentation.proofs.Scans.{numbers}
use Rattle.presentation.proofs.state.Presentation.accept.Goals as goal

pub returns-clause-outcome : goal.returns-clause-outcome
returns-clause-outcome g c =
    let m = g.E.Ring.model in
    let row = c.args.row.now in
    let is = numbers c.self.view_is in
    let old = lent_add c.args.relations.now c.args.work.now c.args.left.now in
    let new = lent_add c.accept_row.new.relations c.accept_row.new.work c.accept_row.new.left in
    accepting_take c.args.self.now.n row c.args.right.now old (omega arith) m c.args.self.now.m new c.accept_row.result
    (subst (λ n. Accepting m c.args.self.now.m (length (take n row)) (take n row) c.args.right.now old new c.accept_row.result) is.1 c.accept_row.ensures.outcome)
