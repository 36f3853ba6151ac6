use Rattle.std.proofs.Common.{◌≡◌, ◌≢◌, ◌+◌, ◌-◌, rules, refl, subst, MatchOption}
use Rattle.std.proofs.lemmas.Iterator.{first_from_find, YieldsList-from_range}
use Rattle.presentation.specs.Places.{place, meant}
use Rattle.presentation.specs.Rests.{Zeros, FirstNonzero}
use Rattle.presentation.proofs.Scans.{first_nonzero_found}
use Rattle.presentation.proofs.prescribe.Open.first_nonzero.Goals as goal

pub returns : goal.returns
returns g c =
    let m = g.E.Ring.model in
    let w = c.args.w.now in
    let axis = c.args.axis in
    let corner = c.self.inside.c in
    subst (λ s. MatchOption c.find.result (Zeros m axis s.c c.args.len w) (λ k. FirstNonzero m axis s.c c.args.len w k)) c.self.view_is
    (first_nonzero_found m w axis corner c.args.len c.find.result
    (first_from_find _ _ c.find.result (λ k. meant m w (place axis corner k) ≢ m.ring.zero) (λ k. meant m w (place axis corner k) ≡ m.ring.zero) c.find.ensures.ran
    (YieldsList-from_range (corner + 1) c.args.len (c.args.len - (corner + 1)) refl refl)
    (λ x q k. search rules) (λ x q k. search rules)))
