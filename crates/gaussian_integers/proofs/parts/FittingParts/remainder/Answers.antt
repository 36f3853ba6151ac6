use Rattle.std.proofs.Common.{◌≡◌, sym, subst, rules}
use Rattle.gaussian_integers.specs.Gaussian.{remainder}
use Rattle.gaussian_integers.specs.Meaning.{Fits}
use Rattle.gaussian_integers.specs.Parts.{value}
use Rattle.gaussian_integers.specs.Bounds.{remainder_within}
use Rattle.gaussian_integers.proofs.parts.FittingParts.remainder.Goals as goal

pub invariant_of-result : goal.invariant_of-result
invariant_of-result c =
    let same : value c.minus-parts.result ≡ remainder (value c.args.self.parts) (value c.args.b.parts) = search rules in
    record { fits = subst Fits (sym same) (remainder_within 268435455 (value c.args.self.parts) (value c.args.b.parts) c.requires.nonzero c.args.b.fits) }
