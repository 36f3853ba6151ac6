use Rattle.std.proofs.Common.{◌≡◌, ◌≢◌, rules}
use Rattle.std.proofs.lemmas.Iterator.{cases_from_all, YieldsList-from_slice}
use Rattle.presentation.proofs.Products.{zero_row_all}
use Rattle.presentation.proofs.product.is_zero_row.Goals as goal

pub returns : goal.returns
returns g c =
    let m = g.E.Ring.model in
    zero_row_all m c.args.row.now c.all.result
    (cases_from_all _ _ _ (λ x. m.mean x ≡ m.ring.zero) (λ x. m.mean x ≢ m.ring.zero) c.all.ensures.ran (YieldsList-from_slice _ cc) (λ x q k. search rules) (λ x q k. search rules))
