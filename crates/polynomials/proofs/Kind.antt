-- A kind of polynomials keeps the laws of a kind.
use Rattle.std.proofs.Common.{◌≡◌, ℕ, ◌^◌, ◌<◌, ◌≤◌, sym, ◌∙◌, subst, arith}
use Rattle.algebra.specs.Field.{Field}
use Rattle.kinds.specs.Laws.{RangeLaws, SizeLaws, DivisionLaws, NormalLaws}
use Rattle.polynomials.specs.Polynomial.{Polynomial, size}
use Rattle.polynomials.specs.Kind.{kind}
use Rattle.polynomials.proofs.Sizes.{null_size, size_null, constant_size, multiple_size}
use Rattle.polynomials.proofs.Division.{division, quotient_size, same_remainder, remainder_same}
use Rattle.polynomials.proofs.Units.{unit_times_size, unit_inverse, unit_null, inverse_null, unit_normal, normal_once}

module _ {F E S : Type 0} (K : Field F) (room : ℕ) (mean : E → Polynomial K) (total : S → Polynomial K) (count : S → ℕ) where
  -- each element means a polynomial that fits, and each of those is meant by one
  pub range_laws : 1 ≤ room → ((e : E) → size K (mean e) ≤ room) → ((a : Polynomial K) → size K a ≤ room → (e : E) × (mean e ≡ a)) → RangeLaws (kind K room mean total count)
  range_laws some fits held = record {
    zero_fits = let z = null_size K in omega arith;
    one_fits = let z = constant_size K K.ring.one K.one_not_zero in omega arith;
    unit_fits = λ u a v f. let z = unit_times_size K u a v in omega arith;
    mean_fits = fits;
    held = held;
  }

  pub size_laws : room < 2 ^ 63 → ((e : E) → size K (mean e) ≤ room) → SizeLaws (kind K room mean total count)
  size_laws few fits = record {
    size_zero = null_size K;
    zero_size = size_null K;
    size_small = λ e. let f = fits e in omega arith;
    size_multiple = λ a b h m. subst (λ t. size K b ≤ size K t) (sym m.1) (multiple_size K m.0 b (λ e. h (m.1 ∙ e)));
  }

  pub division_laws : DivisionLaws (kind K room mean total count)
  division_laws = record {
    divides = λ a b h. (division K a b h).is;
    smaller = λ a b h. (division K a b h).smaller;
    quotient_fits = λ a b h f g. let z = quotient_size K a b in omega arith;
    remainder_fits = λ a b h f g. let z = (division K a b h).smaller in omega arith;
    same_remainder = same_remainder K;
    remainder_same = remainder_same K;
  }

  pub normal_laws : NormalLaws (kind K room mean total count)
  normal_laws = record {
    unit_inverse = unit_inverse K;
    unit_zero = unit_null K;
    inverse_zero = inverse_null K;
    normal = unit_normal K;
    normal_once = normal_once K;
  }
