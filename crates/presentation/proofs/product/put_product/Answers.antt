use Rattle.std.proofs.Common.{◌≡◌, ◌≤◌, rules, refl, ap, ◌∙◌, subst, arith, length, length-set, Ok, MatchResult}
use Rattle.std.proofs.lemmas.List.{length-replicate}
use Rattle.std.proofs.lemmas.Result.{err_from_is_err_and}
use Rattle.std.specs.Result.{IsErrAnd}
use Rattle.presentation.specs.declared.fault.Table.TheVariants.{Work}
use Rattle.presentation.specs.declared.table.Axis.TheVariants.{Row}
use Rattle.presentation.specs.Places.{fault_at}
use Rattle.presentation.proofs.Tables.{written_take}
use Rattle.presentation.proofs.Updates.{NewAt, new_at}
use Rattle.presentation.proofs.Products.{zero_sums, sums_more, unfit_sum, written_put}
use Rattle.presentation.proofs.product.put_product.Goals as goal

pub loop-j-preserved : goal.loop-j-preserved
loop-j-preserved g c =
    let placed : MatchResult c.entry.result (λ x. c.map_err.result ≡ Ok x) (λ e. IsErrAnd c.map_err.result (λ f. f ≡ fault_at Row Work c.args.m c.loop-j.j-counter e)) = search rules in (
      length-set _ _ _ ∙ c.loop-j.invariant.0,
      sums_more g.E.Ring.model (length c.args.row.now) c.loop-j.j-counter c.args.row.now c.args.t.now c.loop-j.line c.in_ok-line.field-0 (omega arith)
          (subst (NewAt g.E.Ring.model _ _) c.in_ok-line.was (new_at g.E.Ring.model (fault_at Row Work c.args.m c.loop-j.j-counter) _ c.entry.result c.map_err.result c.entry.ensures placed))
          c.loop-j.invariant.1,
    )

pub returns-in_err-line : goal.returns-in_err-line
returns-in_err-line g c =
    let placed : MatchResult c.entry.result (λ x. c.map_err.result ≡ Ok x) (λ e. IsErrAnd c.map_err.result (λ f. f ≡ fault_at Row Work c.args.m c.loop-j.j-counter e)) = search rules in
    let p = err_from_is_err_and c.from_residual.result c.from_residual.ensures.1 in
    rw (p.1, p.2) (
      refl,
      unfit_sum g.E.Ring.model g.met.E.Ring.range (length c.args.row.now) c.args.m c.loop-j.j-counter c.args.row.now c.args.t.now c.loop-j.line c.set_zero.new.self c.in_err-line.field-0.0
          (omega arith)
          (subst (NewAt g.E.Ring.model _ _) c.in_err-line.was (new_at g.E.Ring.model (fault_at Row Work c.args.m c.loop-j.j-counter) _ c.entry.result c.map_err.result c.entry.ensures placed))
          c.loop-j.invariant.1,
    )

pub returns : goal.returns
returns g c =
    let m = g.E.Ring.model in
    let row = c.args.row.now in
    let line = c.if-not-is_zero_row.line in
    let enough : length row ≤ length line =
    elim c.if-not-is_zero_row.branch [
      | goal.then-not-is_zero_row+else-loop-j-test w ↦ omega (arith, ap length w.line-is, w.loop-j.invariant.0)
      | goal.else-not-is_zero_row w ↦ omega (arith, ap length w.line-is, length-replicate 32 c.set_zero.new.self)
    ]
    in
    written_put m (length row) c.args.m row c.args.t.now line c.args.work.now c.put_row.new.t c.set_zero.new.self (omega arith) (omega arith) (omega arith)
    (elim c.if-not-is_zero_row.branch [
      | goal.then-not-is_zero_row+else-loop-j-test w ↦ rw w.line-is (λ j d l. w.loop-j.invariant.1 j d (omega arith))
      | goal.else-not-is_zero_row w ↦ rw w.line-is (zero_sums m g.met.E.Ring.ring (length row) row c.args.t.now c.set_zero.new.self c.requires.few c.set_zero.ensures (c.is_zero_row.ensures.0 w.if-not-is_zero_row.false))
    ])
    (written_take Row c.args.m (length row) line c.args.work.now c.put_row.new.t enough c.put_row.ensures)
