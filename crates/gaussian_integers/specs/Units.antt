-- The four units, and the one normal member among the four multiples by them. Proofs that Laws needs.
--
--   unit_within   a unit multiple keeps within a bound
--   normal_once   two normal unit multiples are the same
--   unit_inverse  the unit that normalises, times its inverse
--   unit_normal   a member times that unit is normal
use Rattle.std.specs.Prelude.{◌≡◌, ℕ, zero, suc, Bool, true, false, if◌then◌else◌, ◌⊎◌, List, [], ◌∷◌, ℤ, pos, negsuc, neg_ℤ, ◌≤ℤ◌, ◌<ℤ◌, unsigned_abs, refl}
use Rattle.std.proofs.Common.{sym, ap, subst, ◌∙◌, inl, inr, arith}
use Rattle.std.proofs.lemmas.Int.{ints}
use Rattle.std.proofs.lemmas.Bool.Decides.{nat_tests}
use Rattle.algebra.specs.Whole.{whole}
use Rattle.algebra.proofs.Magnitudes.{abs_neg, abs_zero, abs_one, one_of_squares, one_of_product}
use Rattle.algebra.proofs.Ring.{one_mul, mul_zero}
use Rattle.algebra.proofs.Solver.{Reads, unity, ⊝, ring, reify}
use Rattle.algebra.proofs.Whole.{whole_laws}
use Rattle.gaussian_integers.specs.Gaussian.{Gaussian, gauss, gaussian, conjugate, size, Within, Normal, second, third, fourth, unit, inverse}
use Rattle.gaussian_integers.specs.Members.{parts_equal, gaussian_laws}
use Rattle.gaussian_integers.specs.Norms.{size_mul}

-- what holds of 1, -1, i and -i holds of every unit
by_unit : (P : Gaussian → Type 0) (u v : Gaussian) → gaussian.mul u v ≡ gaussian.one → P (gauss (pos 1) (pos 0)) → P (gauss (negsuc 0) (pos 0)) → P (gauss (pos 0) (pos 1)) → P (gauss (pos 0) (negsuc 0)) → P u
by_unit P u v e p q r s = go (one_of_squares (unsigned_abs u.re) (unsigned_abs u.im) (one_of_product (size u) (size v) (sym (size_mul u v) ∙ ap size e)))
  where
    real : u.im ≡ pos 0 → (u.re ≡ pos 1) ⊎ (u.re ≡ negsuc 0) → P u
    real z (inl o) = subst P (sym (parts_equal {a = u} o z)) p
    real z (inr o) = subst P (sym (parts_equal {a = u} o z)) q

    imaginary : u.re ≡ pos 0 → (u.im ≡ pos 1) ⊎ (u.im ≡ negsuc 0) → P u
    imaginary z (inl o) = subst P (sym (parts_equal {a = u} z o)) r
    imaginary z (inr o) = subst P (sym (parts_equal {a = u} z o)) s

    go : ((unsigned_abs u.re ≡ 1) × (unsigned_abs u.im ≡ 0)) ⊎ ((unsigned_abs u.re ≡ 0) × (unsigned_abs u.im ≡ 1)) → P u
    go (inl h) = real (abs_zero u.im h.1) (abs_one u.re h.0)
    go (inr h) = imaginary (abs_zero u.re h.0) (abs_one u.im h.1)

abbrev reads_minus_one : {env : List ℤ} → Reads whole env (negsuc 0)
reads_minus_one = record { term = ⊝ unity; is = refl }

mul_minus_one : (a : Gaussian) → gaussian.mul (gauss (negsuc 0) (pos 0)) a ≡ gauss (neg_ℤ a.re) (neg_ℤ a.im)
mul_minus_one a = parts_equal
    (ring whole_laws (a.re ∷ a.im ∷ []) (search (reify, reads_minus_one) depth 20) refl)
    (ring whole_laws (a.re ∷ a.im ∷ []) (search (reify, reads_minus_one) depth 20) refl)

mul_i : (a : Gaussian) → gaussian.mul (gauss (pos 0) (pos 1)) a ≡ gauss (neg_ℤ a.im) a.re
mul_i a = parts_equal
    (ring whole_laws (a.re ∷ a.im ∷ []) (search reify depth 20) refl)
    (ring whole_laws (a.re ∷ a.im ∷ []) (search reify depth 20) refl)

mul_minus_i : (a : Gaussian) → gaussian.mul (gauss (pos 0) (negsuc 0)) a ≡ gauss a.im (neg_ℤ a.re)
mul_minus_i a = parts_equal
    (ring whole_laws (a.re ∷ a.im ∷ []) (search (reify, reads_minus_one) depth 20) refl)
    (ring whole_laws (a.re ∷ a.im ∷ []) (search (reify, reads_minus_one) depth 20) refl)

-- what holds of a member turned by 0, 2, 1 and 3 right angles holds of its multiple by a unit
by_turn : (P : Gaussian → Type 0) (a u v : Gaussian) → gaussian.mul u v ≡ gaussian.one → P a → P (gauss (neg_ℤ a.re) (neg_ℤ a.im)) → P (gauss (neg_ℤ a.im) a.re) → P (gauss a.im (neg_ℤ a.re)) → P (gaussian.mul u a)
by_turn P a u v e p q r s = by_unit (λ w. P (gaussian.mul w a)) u v e
    (subst P (sym (one_mul gaussian_laws a)) p)
    (subst P (sym (mul_minus_one a)) q)
    (subst P (sym (mul_i a)) r)
    (subst P (sym (mul_minus_i a)) s)

pub unit_within : (l : ℕ) (a u v : Gaussian) → gaussian.mul u v ≡ gaussian.one → Within l a → Within l (gaussian.mul u a)
unit_within l a u v e f = by_turn (Within l) a u v e f
    (rw (abs_neg a.re) f.0, rw (abs_neg a.im) f.1)
    (rw (abs_neg a.im) f.1, f.0)
    (f.1, rw (abs_neg a.re) f.0)

-- a member whose multiple by a unit is zero is zero
unit_zero : (a u v : Gaussian) → gaussian.mul u v ≡ gaussian.one → gaussian.mul u a ≡ gaussian.zero → a ≡ gaussian.zero
unit_zero a u v e z =
    sym (one_mul gaussian_laws a)
    ∙ ap (λ t. gaussian.mul t a) (sym e)
    ∙ ring gaussian_laws (a ∷ u ∷ v ∷ []) (search reify depth 20) refl
    ∙ ap (gaussian.mul v) z
    ∙ mul_zero gaussian_laws v

abbrev First : Gaussian → Type 0
First a = (pos 0 <ℤ a.re) × (pos 0 ≤ℤ a.im)

-- a turn by 1, 2 or 3 right angles leads out of the first quadrant
first_once : (a u v : Gaussian) → gaussian.mul u v ≡ gaussian.one → First a → First (gaussian.mul u a) → gaussian.mul u a ≡ a
first_once a u v e p = by_turn (λ x. First x → x ≡ a) a u v e (λ q. refl) (λ q. absurd (omega (arith, ints))) (λ q. absurd (omega (arith, ints))) (λ q. absurd (omega (arith, ints)))

pub normal_once : (a u v : Gaussian) → gaussian.mul u v ≡ gaussian.one → Normal a → Normal (gaussian.mul u a) → gaussian.mul u a ≡ a
normal_once a u v e (inl z) n = ap (gaussian.mul u) z ∙ mul_zero gaussian_laws u ∙ sym z
normal_once a u v e (inr p) (inl z) = z ∙ sym (unit_zero a u v e z)
normal_once a u v e (inr p) (inr q) = first_once a u v e p q

-- the unit by the quadrant
abbrev chosen : Bool → Bool → Bool → Gaussian
chosen p q r = if p then gauss (pos 0) (negsuc 0) else if q then gauss (negsuc 0) (pos 0) else if r then gauss (pos 0) (pos 1) else gauss (pos 1) (pos 0)

pub unit_inverse : (a : Gaussian) → gaussian.mul (unit a) (inverse a) ≡ gaussian.one
unit_inverse a = go (second a) (third a) (fourth a)
  where
    go : (p q r : Bool) → gaussian.mul (chosen p q r) (conjugate (chosen p q r)) ≡ gaussian.one
    go true q r = refl
    go false true r = refl
    go false false true = refl
    go false false false = refl

-- a member in no other quadrant is normal
first_normal : (x y : ℤ) → second (gauss x y) ≡ false → third (gauss x y) ≡ false → fourth (gauss x y) ≡ false → Normal (gauss x y)
first_normal (pos zero) y e f g = inl (parts_equal refl (grind (arith, ints, nat_tests)))
first_normal (pos (suc m)) y e f g = inr (grind (arith, ints, nat_tests), grind (arith, ints, nat_tests))
first_normal (negsuc m) y e f g = absurd (grind (arith, ints, nat_tests))

pub unit_normal : (a : Gaussian) → Normal (gaussian.mul (unit a) a)
unit_normal a = go (second a) (third a) (fourth a) refl refl refl
  where
    go : (p q r : Bool) → second a ≡ p → third a ≡ q → fourth a ≡ r → Normal (gaussian.mul (chosen p q r) a)
    go true q r e f g = subst Normal (sym (mul_minus_i a)) (inr (grind (arith, ints, nat_tests), grind (arith, ints, nat_tests)))
    go false true r e f g = subst Normal (sym (mul_minus_one a)) (inr (grind (arith, ints, nat_tests), grind (arith, ints, nat_tests)))
    go false false true e f g = subst Normal (sym (mul_i a)) (inr (grind (arith, ints, nat_tests), grind (arith, ints, nat_tests)))
    go false false false e f g = subst Normal (sym (one_mul gaussian_laws a)) (first_normal a.re a.im e f g)
