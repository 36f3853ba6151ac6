-- Division of integers with a remainder that is not negative.
use Rattle.std.proofs.Common.{◌≡◌, ◌≢◌, zero, suc, ◌/◌, ◌<◌, ◌≤◌, T, [], ◌∷◌, ℤ, pos, negsuc, ◌+ℤ◌, ◌-ℤ◌, ◌*ℤ◌, unsigned_abs, sym, refl, ap, ◌∙◌, arith}
use Rattle.std.proofs.Math.Nat as nat
use Rattle.std.proofs.Math.IntN.{zero-*ℤ}
use Rattle.std.specs.Int.Signed.{non_neg}
use Rattle.std.specs.Int.{int_div_euclid, int_rem_euclid}
use Rattle.std.proofs.lemmas.Int.{ints, unsigned_abs-mul}
use Rattle.algebra.specs.Ring.{Divides}
use Rattle.algebra.specs.Whole.{whole}
use Rattle.algebra.proofs.Ring.{sub_zero}
use Rattle.algebra.proofs.Solver.{ring, ring_by, reify}
use Rattle.algebra.proofs.Divides.{one_remainder, remainders_differ}
use Rattle.algebra.proofs.Magnitudes.{abs_neg, abs_pos, zero_factor}
use Rattle.algebra.proofs.Whole.{neg_mul, whole_laws}

pub divides : (a b : ℤ) → (b ≢ pos 0) → a ≡ (int_div_euclid a b *ℤ b) +ℤ int_rem_euclid a b
divides (pos a) (pos b) h = ap pos (sym (nat.div-add-mod' a b))
divides (pos a) (negsuc b) h =
    omega (arith, ints, neg_mul (pos (a / suc b)) (negsuc b), nat.div-add-mod' a (suc b))
divides (negsuc a) (pos zero) h = absurd (h refl)
divides (negsuc a) (pos (suc b)) h =
    omega (arith, ints, nat.div-add-mod' a (suc b), nat.mod-lt a {m = suc b} (omega arith), nat.suc-mul (a / suc b) (suc b))
divides (negsuc a) (negsuc b) h =
    omega (arith, ints, nat.div-add-mod' a (suc b), nat.mod-lt a {m = suc b} (omega arith), nat.suc-mul (a / suc b) (suc b))

pub smaller : (a b : ℤ) → (b ≢ pos 0) → unsigned_abs (int_rem_euclid a b) < unsigned_abs b
smaller (pos a) b h = nat.mod-lt a (abs_pos b h)
smaller (negsuc a) b h = let p = abs_pos b h in omega (arith, nat.mod-lt a p)

pub not_negative : (a b : ℤ) → T (non_neg (int_rem_euclid a b))
not_negative (pos a) b = tt
not_negative (negsuc a) b = tt

pub abs_quotient : (a b : ℤ) → unsigned_abs (int_div_euclid a b) ≤ unsigned_abs a
abs_quotient (pos a) (pos b) = nat.div-le_self a b
abs_quotient (pos a) (negsuc b) = rw (abs_neg (pos (a / suc b))) (nat.div-le_self a (suc b))
abs_quotient (negsuc a) (pos b) = omega (arith, nat.div-le_self a b)
abs_quotient (negsuc a) (negsuc b) = omega (arith, nat.div-le_self a (suc b))

-- two remainders that differ by a multiple of b are one
alike : (k b r s : ℤ) → T (non_neg r) → T (non_neg s) → unsigned_abs r < unsigned_abs b → unsigned_abs s < unsigned_abs b → r -ℤ s ≡ k *ℤ b → r ≡ s
alike (pos zero) b r s p q f g e = let z = zero-*ℤ b in omega (arith, ints)
alike (pos (suc n)) b r s p q f g e = omega (arith, ints, ap unsigned_abs e, unsigned_abs-mul (pos (suc n)) b, nat.suc-mul n (unsigned_abs b))
alike (negsuc n) b r s p q f g e = omega (arith, ints, ap unsigned_abs e, unsigned_abs-mul (negsuc n) b, nat.suc-mul n (unsigned_abs b))

pub same_remainder : (a b c : ℤ) → (b ≢ pos 0) → Divides whole b (a -ℤ c) → int_rem_euclid a b ≡ int_rem_euclid c b
same_remainder a b c h (k, e) =
    alike (k -ℤ int_div_euclid a b +ℤ int_div_euclid c b) b (int_rem_euclid a b) (int_rem_euclid c b) (not_negative a b) (not_negative c b) (smaller a b h) (smaller c b h)
    (remainders_differ whole_laws a c b (int_div_euclid a b) (int_div_euclid c b) (int_rem_euclid a b) (int_rem_euclid c b) k (divides a b h) (divides c b h) e)

pub remainder_same : (a b c : ℤ) → (b ≢ pos 0) → int_rem_euclid a b ≡ int_rem_euclid c b → Divides whole b (a -ℤ c)
remainder_same a b c h e =
    one_remainder whole_laws a c b (int_div_euclid a b) (int_div_euclid c b) (int_rem_euclid c b) (divides a b h ∙ ap (λ r. int_div_euclid a b *ℤ b +ℤ r) e) (divides c b h)

-- k times b added to the dividend adds k to the quotient
pub quotient_shift : (a b k : ℤ) → (b ≢ pos 0) → int_div_euclid (a +ℤ k *ℤ b) b ≡ int_div_euclid a b +ℤ k
quotient_shift a b k h = moved (int_div_euclid a b) (int_div_euclid (a +ℤ k *ℤ b) b) (int_rem_euclid a b) (divides a b h)
    (divides (a +ℤ k *ℤ b) b h ∙ ap (λ r. int_div_euclid (a +ℤ k *ℤ b) b *ℤ b +ℤ r) (same_remainder (a +ℤ k *ℤ b) b a h (k, ring whole_laws (a ∷ k ∷ b ∷ []) (search reify depth 20) refl)))
  where
    moved : (x y r : ℤ) → a ≡ x *ℤ b +ℤ r → a +ℤ k *ℤ b ≡ y *ℤ b +ℤ r → y ≡ x +ℤ k
    moved x y r e f = sub_zero whole_laws y (x +ℤ k) (zero_factor b (y -ℤ (x +ℤ k)) h
        (ring_by whole_laws (x ∷ y ∷ r ∷ k ∷ b ∷ []) (pos 1) (sym f ∙ ap (λ t. t +ℤ k *ℤ b) e) (search reify depth 20) refl))
