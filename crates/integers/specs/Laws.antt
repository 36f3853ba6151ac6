-- The integers keep the laws of a kind. Proofs, here since the kind's impl names them.
--
--   range_laws     which members fit, and that each of those is meant by an element
--   size_laws      the Euclidean size
--   division_laws  quotient and remainder
--   normal_laws    one normal member among a member and its unit multiples
use Rattle.std.specs.Prelude.{◌≡◌, ℕ, zero, suc, ◌*◌, ◌<◌, ◌≤◌, T, ℤ, pos, negsuc, ◌*ℤ◌, neg_ℤ, unsigned_abs, refl}
use Rattle.std.proofs.Common.{ap, ◌∙◌, arith}
use Rattle.std.proofs.Math.Nat as nat
use Rattle.std.proofs.Math.IntN.{*ℤ-zero}
use Rattle.std.specs.Int.Signed.{non_neg}
use Rattle.std.proofs.lemmas.Int.{ints, unsigned_abs-mul}
use Rattle.std.proofs.lemmas.Bool.Decides.{nat_tests}
use Rattle.kinds.specs.Laws.{RangeLaws, SizeLaws, DivisionLaws, NormalLaws}
use Rattle.integers.specs.declared.Integer.{Integer}
use Rattle.integers.specs.Meaning.{integers, meaning, sign}
use Rattle.algebra.proofs.Magnitudes.{abs_multiple, unit_abs}
use Rattle.algebra.proofs.Whole.{one_mul}
use Rattle.algebra.proofs.WholeDivision.{divides, smaller, abs_quotient, same_remainder, remainder_same}

mean_fits : (e : Integer) → unsigned_abs (meaning e) ≤ 536870911
mean_fits e = grind (arith, nat_tests)

pub range_laws : RangeLaws integers
range_laws = record {
  zero_fits = omega arith;
  one_fits = omega arith;
  unit_fits = λ u a v f. rw (unsigned_abs-mul u a, unit_abs u v.0 v.1, nat.one-mul) f;
  mean_fits = mean_fits;
  held = λ a f. (record { value = a }, grind (arith, nat_tests));
}

pub size_laws : SizeLaws integers
size_laws = record {
  size_zero = refl;
  zero_size = λ a e. omega (arith, ints);
  size_small = λ e. omega (arith, mean_fits e);
  size_multiple = λ a b h m. rw m.1 (abs_multiple m.0 b (λ e. h (m.1 ∙ e)));
}

pub division_laws : DivisionLaws integers
division_laws = record {
  divides = divides;
  smaller = smaller;
  quotient_fits = λ a b h f g. omega (arith, abs_quotient a b);
  remainder_fits = λ a b h f g. omega (arith, smaller a b h);
  same_remainder = same_remainder;
  remainder_same = remainder_same;
}

sign_sign : (a : ℤ) → sign a *ℤ sign a ≡ pos 1
sign_sign (pos n) = refl
sign_sign (negsuc n) = refl

sign_normal : (a : ℤ) → T (non_neg (sign a *ℤ a))
sign_normal (pos n) = tt
sign_normal (negsuc n) = tt

below_zero : (k : ℕ) → 0 < k → ¬ T (non_neg (neg_ℤ (pos k)))
below_zero zero h t = omega arith
below_zero (suc k) h t = t

normal_once : (a u : ℤ) → unsigned_abs u ≡ 1 → T (non_neg a) → T (non_neg (u *ℤ a)) → u *ℤ a ≡ a
normal_once a (pos n) e p q = rw (ap pos e) (one_mul a)
normal_once (pos zero) (negsuc n) e p q = *ℤ-zero (negsuc n)
normal_once (pos (suc m)) (negsuc n) e p q = absurd (below_zero (suc n * suc m) (nat.mul-pos {m = suc n} {n = suc m} (omega arith) (omega arith)) q)
normal_once (negsuc m) (negsuc n) e p q = absurd p

pub normal_laws : NormalLaws integers
normal_laws = record {
  unit_inverse = sign_sign;
  unit_zero = refl;
  inverse_zero = refl;
  normal = sign_normal;
  normal_once = λ a u v. normal_once a u (unit_abs u v.0 v.1);
}
