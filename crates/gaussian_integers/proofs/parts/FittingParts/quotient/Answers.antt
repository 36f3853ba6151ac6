use Rattle.std.proofs.Common.{◌≡◌, pos, ◌<ℤ◌, sym, subst, rules}
use Rattle.gaussian_integers.specs.Gaussian.{quotient}
use Rattle.gaussian_integers.specs.Meaning.{Fits}
use Rattle.gaussian_integers.specs.Parts.{value}
use Rattle.gaussian_integers.specs.Norms.{norm_positive}
use Rattle.gaussian_integers.specs.Bounds.{quotient_within}
use Rattle.gaussian_integers.proofs.parts.FittingParts.quotient.Goals as goal

pub rounded-parts-requires-clause-positive : goal.rounded-parts-requires-clause-positive
rounded-parts-requires-clause-positive c =
    let above : pos 0 <ℤ c.norm.result = subst (λ n. pos 0 <ℤ n) (sym c.norm.ensures.value) (norm_positive (value c.args.b.parts) c.requires.nonzero) in
    search rules

pub invariant_of-result : goal.invariant_of-result
invariant_of-result c =
    let same : value c.rounded-parts.result ≡ quotient (value c.args.self.parts) (value c.args.b.parts) = search rules in
    record { fits = subst Fits (sym same) (quotient_within 268435455 (value c.args.self.parts) (value c.args.b.parts) c.requires.nonzero c.args.self.fits) }
