use Rattle.std.proofs.Common.{ap, ◌∙◌}
use Rattle.presentation.specs.Rests.{member}
use Rattle.presentation.proofs.Scans.{numbers, corner_not_zero}
use Rattle.presentation.proofs.prescribe.Open.corner.Goals as goal

pub invariant_of-result : goal.invariant_of-result
invariant_of-result g c = record { nonzero = corner_not_zero g.E.Ring.model c.args.self.now c.args.w.now _ _ _ _ c.self.view_is c.entry.ensures c.requires }

pub returns : goal.returns
returns g c = let m = g.E.Ring.model in c.entry.ensures ∙ ap (λ k. member m c.args.w.now k k) (numbers c.self.view_is).2
