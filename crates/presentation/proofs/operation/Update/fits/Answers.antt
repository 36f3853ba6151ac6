use Rattle.std.proofs.Common.{◌≡◌, rules, subst, arith, Ok, MatchResult}
use Rattle.std.proofs.lemmas.Result.{err_from_is_err_and}
use Rattle.std.specs.Result.{IsErrAnd}
use Rattle.presentation.specs.Places.{fault_at}
use Rattle.presentation.proofs.Updates.{fit_more, NewAt, new_at, unfit}
use Rattle.presentation.proofs.operation.Update.fits.Goals as goal

pub loop-k-preserved : goal.loop-k-preserved
loop-k-preserved g c =
    let at = fault_at c.args.axis c.args.table c.args.self.now.to c.loop-k.k-counter in
    let placed : MatchResult c.new_entry.result (λ x. c.map_err.result ≡ Ok x) (λ e. IsErrAnd c.map_err.result (λ f. f ≡ at e)) = search rules in
    fit_more g.E.Ring.model c.args.self.now c.args.axis c.args.t.now c.loop-k.k-counter c.in_ok-map_err.field-0 g.met.E.Ring.range
    (subst (NewAt g.E.Ring.model _ _) c.in_ok-map_err.was (new_at g.E.Ring.model at _ c.new_entry.result c.map_err.result c.new_entry.ensures placed))
    c.loop-k.invariant

pub returns-in_err-map_err : goal.returns-in_err-map_err
returns-in_err-map_err g c =
    let at = fault_at c.args.axis c.args.table c.args.self.now.to c.loop-k.k-counter in
    let placed : MatchResult c.new_entry.result (λ x. c.map_err.result ≡ Ok x) (λ e. IsErrAnd c.map_err.result (λ f. f ≡ at e)) = search rules in
    let p = err_from_is_err_and c.from_residual.result c.from_residual.ensures.1 in
    rw (p.1, p.2)
    (unfit g.E.Ring.model c.args.self.now c.args.table c.args.axis c.args.t.now c.args.len c.loop-k.k-counter c.in_err-map_err.field-0.0 (omega arith)
    (subst (NewAt g.E.Ring.model _ _) c.in_err-map_err.was (new_at g.E.Ring.model at _ c.new_entry.result c.map_err.result c.new_entry.ensures placed))
    c.loop-k.invariant)
