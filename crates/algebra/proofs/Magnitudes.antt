-- Magnitudes of products and squares of integers.
use Rattle.std.proofs.Common.{◌≡◌, ◌≢◌, ℕ, zero, suc, ◌+◌, ◌*◌, ◌<◌, ◌≤◌, ◌⊎◌, ℤ, pos, negsuc, ◌*ℤ◌, neg_ℤ, unsigned_abs, sym, refl, ap, subst, ◌∙◌, inl, inr, arith}
use Rattle.std.proofs.Math.Nat as nat
use Prim.Native.Nat.{◌∣◌}
use Rattle.std.proofs.Math.IntN.{zero-*ℤ}
use Rattle.std.proofs.lemmas.Int.{ints, unsigned_abs-mul}

pub abs_neg : (z : ℤ) → unsigned_abs (neg_ℤ z) ≡ unsigned_abs z
abs_neg z = omega (arith, ints)

pub abs_mul_le : (a b : ℤ) (m n : ℕ) → unsigned_abs a ≤ m → unsigned_abs b ≤ n → unsigned_abs (a *ℤ b) ≤ m * n
abs_mul_le a b m n p q = rw (unsigned_abs-mul a b) (nat.mul-le-mul p q)

pub abs_pos : (b : ℤ) → (b ≢ pos 0) → 0 < unsigned_abs b
abs_pos b h = omega (arith, ints)

pub mul_not_zero : (a b : ℤ) → (a ≢ pos 0) → (b ≢ pos 0) → a *ℤ b ≢ pos 0
mul_not_zero a b p q e = omega (arith, nat.mul-pos {m = unsigned_abs a} {n = unsigned_abs b} (abs_pos a p) (abs_pos b q), unsigned_abs-mul a b, ap unsigned_abs e)

pub one_of_product : (m n : ℕ) → m * n ≡ 1 → m ≡ 1
one_of_product m n e = nat.eq-one_of_dvd-one (subst (λ t. m ∣ t) e (nat.dvd-mul_right m n))

-- a unit is 1 or -1
pub unit_abs : (u v : ℤ) → u *ℤ v ≡ pos 1 → unsigned_abs u ≡ 1
unit_abs u v e = one_of_product (unsigned_abs u) (unsigned_abs v) (sym (unsigned_abs-mul u v) ∙ ap unsigned_abs e)

-- a nonzero multiple of b has at least the magnitude of b
pub abs_multiple : (q b : ℤ) → (q *ℤ b ≢ pos 0) → unsigned_abs b ≤ unsigned_abs (q *ℤ b)
abs_multiple (pos zero) b h = absurd (h (zero-*ℤ b))
abs_multiple (pos (suc n)) b h = omega (arith, unsigned_abs-mul (pos (suc n)) b, nat.suc-mul n (unsigned_abs b))
abs_multiple (negsuc n) b h = omega (arith, unsigned_abs-mul (negsuc n) b, nat.suc-mul n (unsigned_abs b))

pub at_most : (m n : ℕ) → ¬ (n < m) → m ≤ n
at_most m n h = omega arith

-- the larger square has the larger root
pub root_le : (m n : ℕ) → m * m ≤ n * n → m ≤ n
root_le m n h = at_most m n (λ p. omega (arith, nat.mul-le-mul p p, nat.suc-mul n (suc n), nat.mul-suc n n))

pub square_zero : (m : ℕ) → m * m ≡ 0 → m ≡ 0
square_zero zero e = refl
square_zero (suc m) e = absurd (omega (arith, nat.mul-pos {m = suc m} {n = suc m} (omega arith) (omega arith)))

-- two squares whose sum is 1 are 1 and 0
pub one_of_squares : (m n : ℕ) → m * m + n * n ≡ 1 → ((m ≡ 1) × (n ≡ 0)) ⊎ ((m ≡ 0) × (n ≡ 1))
one_of_squares zero n e = inr (refl, one_of_product n n (omega (arith, nat.zero-mul 0)))
one_of_squares (suc zero) n e = inl (refl, square_zero n (omega arith))
one_of_squares (suc (suc m)) n e = absurd (omega (arith, nat.mul-le-mul {n₁ = 2} {m₁ = 2} {n₂ = suc (suc m)} {m₂ = suc (suc m)} (omega arith) (omega arith)))

pub abs_zero : (x : ℤ) → unsigned_abs x ≡ 0 → x ≡ pos 0
abs_zero x e = omega (arith, ints)

pub abs_one : (x : ℤ) → unsigned_abs x ≡ 1 → (x ≡ pos 1) ⊎ (x ≡ negsuc 0)
abs_one (pos n) e = inl (ap pos e)
abs_one (negsuc n) e = inr (ap negsuc (omega arith))

pub square_abs : (x : ℤ) → x *ℤ x ≡ pos (unsigned_abs x * unsigned_abs x)
square_abs (pos n) = refl
square_abs (negsuc n) = refl

pub zero_factor : (a b : ℤ) → (a ≢ pos 0) → a *ℤ b ≡ pos 0 → b ≡ pos 0
zero_factor a (pos zero) h e = refl
zero_factor a (pos (suc n)) h e = absurd (mul_not_zero a (pos (suc n)) h (λ f. omega (arith, ap unsigned_abs f)) e)
zero_factor a (negsuc n) h e = absurd (mul_not_zero a (negsuc n) h (λ f. omega (arith, ap unsigned_abs f)) e)
