-- Quotient and remainder of members within a bound are within it. Proofs that Laws needs.
--
--   remainder_within  the remainder, where the divisor is within it
--   quotient_within   the quotient, where the dividend is within it
use Rattle.std.specs.Prelude.{◌≡◌, ◌≢◌, ℕ, zero, suc, ◌+◌, ◌*◌, ◌<◌, ◌≤◌, ℤ, pos, ◌-ℤ◌, ◌*ℤ◌, ◌<ℤ◌, unsigned_abs, refl}
use Rattle.std.proofs.Common.{sym, ap, subst, ◌∙◌, arith}
use Rattle.std.proofs.Math.Nat as nat
use Rattle.std.proofs.lemmas.Int.{ints, unsigned_abs-mul}
use Rattle.algebra.proofs.Magnitudes.{at_most, root_le}
use Rattle.gaussian_integers.specs.Gaussian.{Gaussian, gauss, gaussian, conjugate, norm, size, nearest, quotient, remainder, Within}
use Rattle.gaussian_integers.specs.Members.{gaussian_laws, mul_conjugate}
use Rattle.gaussian_integers.specs.Norms.{norm_size, abs_norm, size_mul, size_conjugate, size_positive, norm_positive, size_within}
use Rattle.gaussian_integers.specs.Rounding.{nearest_error}
use Rattle.gaussian_integers.specs.Division.{half}
use Rattle.gaussian_integers.specs.Units.{unit_within}

-- a member of at most half the size of one within l is within l
half_within : (l : ℕ) (r b : Gaussian) → size r + size r ≤ size b → Within l b → Within l r
half_within l r b p f = (root_le _ l (omega (arith, size_within l b f)), root_le _ l (omega (arith, size_within l b f)))

pub remainder_within : (l : ℕ) (a b : Gaussian) → (b ≢ gaussian.zero) → Within l b → Within l (remainder a b)
remainder_within l a b h f = half_within l (remainder a b) b (half a b h) f

near : (x m : ℤ) (n : ℕ) → unsigned_abs (x -ℤ m) + unsigned_abs (x -ℤ m) ≤ n → unsigned_abs m + unsigned_abs m ≤ unsigned_abs x + unsigned_abs x + n
near x m n h = omega (arith, ints)

-- 2 q n at most 2 x + n, with x at most l n, makes q at most l
rounded_le : (q l n x : ℕ) → 0 < n → q * n + q * n ≤ x + x + n → x ≤ l * n → q ≤ l
rounded_le q l n x h f g = at_most q l (λ p. omega (arith, nat.mul-le-mul {n₁ = suc l} {m₁ = n} {n₂ = q} {m₂ = n} p (omega arith), nat.suc-mul l n))

nearest_within : (x n : ℤ) (l : ℕ) → pos 0 <ℤ n → 0 < unsigned_abs n → unsigned_abs x ≤ l * unsigned_abs n → unsigned_abs (nearest x n) ≤ l
nearest_within x n l h k g = rounded_le (unsigned_abs (nearest x n)) l (unsigned_abs n) (unsigned_abs x) k
    (rw (← unsigned_abs-mul (nearest x n) n) (near x (nearest x n *ℤ n) (unsigned_abs n) (nearest_error x n h))) g

square_mul : (l n : ℕ) → l * n * (l * n) ≡ l * l * (n * n)
square_mul l n = nat.mul_assoc l n (l * n) ∙ ap (λ t. l * t) (sym (nat.mul_assoc n l n) ∙ ap (λ t. t * n) (nat.mul_comm n l) ∙ nat.mul_assoc l n n) ∙ sym (nat.mul_assoc l l (n * n))

twice_le : (n : ℕ) → 2 ≤ n → n + n ≤ n * n
twice_le n h = omega (arith, nat.mul-le-mul {n₁ = 2} {m₁ = n} {n₂ = n} {m₂ = n} h (omega arith), nat.suc-mul 1 n, nat.one-mul n)

-- x² at most s n, with s at most 2 l² and n at least 2, makes x at most l n
product_le : (l s n x : ℕ) → 2 ≤ n → x * x ≤ s * n → s ≤ l * l + l * l → x ≤ l * n
product_le l s n x h e f = root_le x (l * n) (omega (arith, square_mul l n, nat.mul-le-mul {n₁ = s} {m₁ = n} {n₂ = l * l + l * l} {m₂ = n} f (omega arith), nat.mul-le-mul {n₁ = l * l} {m₁ = n + n} {n₂ = l * l} {m₂ = n * n} (omega arith) (twice_le n h), nat.add-mul (l * l) (l * l) n, nat.mul-add (l * l) n n))

conjugate_unit : (b : Gaussian) → size b ≡ 1 → gaussian.mul (conjugate b) b ≡ gaussian.one
conjugate_unit b e = gaussian_laws.mul_comm (conjugate b) b ∙ mul_conjugate b ∙ ap (λ n. gauss n (pos 0)) (norm_size b ∙ ap pos e)

-- a within l makes a times the conjugate of b within l times the size of b
product_within : (l n : ℕ) (a b : Gaussian) → size b ≡ n → 0 < n → Within l a → Within (l * n) (gaussian.mul a (conjugate b))
product_within l zero a b e h f = absurd (omega arith)
product_within l (suc zero) a b e h f = rw (nat.mul-one l) (subst (Within l) (gaussian_laws.mul_comm (conjugate b) a) (unit_within l a (conjugate b) b (conjugate_unit b e) f))
product_within l (suc (suc n)) a b e h f = (product_le l (size a) (suc (suc n)) _ (omega arith) (omega (arith, total)) (size_within l a f), product_le l (size a) (suc (suc n)) _ (omega arith) (omega (arith, total)) (size_within l a f))
  where
    total : size (gaussian.mul a (conjugate b)) ≡ size a * suc (suc n)
    total = size_mul a (conjugate b) ∙ ap (λ t. size a * t) (size_conjugate b ∙ e)

pub quotient_within : (l : ℕ) (a b : Gaussian) → (b ≢ gaussian.zero) → Within l a → Within l (quotient a b)
quotient_within l a b h f =
    let p = norm_positive b h in
    let k : 0 < unsigned_abs (norm b) = rw (abs_norm b) (size_positive b h) in
    let s : Within (l * unsigned_abs (norm b)) (gaussian.mul a (conjugate b)) = rw (abs_norm b) (product_within l (size b) a b refl (size_positive b h) f) in
    (nearest_within _ (norm b) l p k s.0, nearest_within _ (norm b) l p k s.1)
