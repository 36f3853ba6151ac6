-- The size of a Gaussian integer: a sum of two squares. Proofs that Laws needs.
--
--   norm_size        the norm is the size
--   abs_norm         its magnitude too
--   size_mul         the size of a product
--   size_conjugate   the size of the conjugate
--   zero_size        only zero has size zero
--   size_positive    all else has a size above zero
--   norm_positive    and a norm above zero
--   gaussian_domain  a product of nonzero members is nonzero
--   size_multiple    a nonzero multiple is at least as large
--   size_within      the size of a member whose parts are bounded
use Rattle.std.specs.Prelude.{◌≡◌, ℕ, zero, suc, ◌+◌, ◌*◌, ◌<◌, ◌≤◌, ℤ, pos, ◌+ℤ◌, ◌<ℤ◌, ◌≢◌, unsigned_abs, refl}
use Rattle.std.proofs.Common.{sym, ap, ap₂, ◌∙◌, arith}
use Rattle.std.proofs.Math.Nat as nat
use Rattle.std.proofs.lemmas.Int.{ints, unsigned_abs-mul}
use Rattle.algebra.specs.Ring.{Domain}
use Rattle.algebra.proofs.Magnitudes.{abs_zero, square_abs, square_zero}
use Rattle.gaussian_integers.specs.Gaussian.{Gaussian, gaussian, conjugate, norm, size, Within}
use Rattle.gaussian_integers.specs.Members.{parts_equal, norm_mul, norm_conjugate}

pub norm_size : (a : Gaussian) → norm a ≡ pos (size a)
norm_size a = ap₂ ◌+ℤ◌ (square_abs a.re) (square_abs a.im)

pub abs_norm : (a : Gaussian) → unsigned_abs (norm a) ≡ size a
abs_norm a = ap unsigned_abs (norm_size a)

pub size_mul : (a b : Gaussian) → size (gaussian.mul a b) ≡ size a * size b
size_mul a b = sym (abs_norm (gaussian.mul a b)) ∙ ap unsigned_abs (norm_mul a b) ∙ unsigned_abs-mul (norm a) (norm b) ∙ ap₂ ◌*◌ (abs_norm a) (abs_norm b)

pub size_conjugate : (a : Gaussian) → size (conjugate a) ≡ size a
size_conjugate a = sym (abs_norm (conjugate a)) ∙ ap unsigned_abs (norm_conjugate a) ∙ abs_norm a

pub zero_size : (a : Gaussian) → size a ≡ 0 → a ≡ gaussian.zero
zero_size a e = parts_equal (abs_zero a.re (square_zero _ (omega arith))) (abs_zero a.im (square_zero _ (omega arith)))

pub size_positive : (a : Gaussian) → (a ≢ gaussian.zero) → 0 < size a
size_positive a h = nat.pos_of_ne-zero (λ e. h (zero_size a e))

above_zero : (n : ℤ) (k : ℕ) → n ≡ pos k → 0 < k → pos 0 <ℤ n
above_zero n k e h = omega (arith, ints)

pub norm_positive : (a : Gaussian) → (a ≢ gaussian.zero) → pos 0 <ℤ norm a
norm_positive a h = above_zero (norm a) (size a) (norm_size a) (size_positive a h)

pub gaussian_domain : Domain gaussian
gaussian_domain = record {
  one_not_zero = λ e. omega (arith, ap size e);
  mul_not_zero = λ a b p q e. omega (arith, ap size e, size_mul a b, nat.mul-pos {m = size a} {n = size b} (size_positive a p) (size_positive b q));
}

-- a nonzero multiple of b has at least the size of b
pub size_multiple : (q b : Gaussian) → (gaussian.mul q b ≢ gaussian.zero) → size b ≤ size (gaussian.mul q b)
size_multiple q b h = rw (size_mul q b) (go (size q) (λ e. h (zero_size (gaussian.mul q b) (size_mul q b ∙ ap (λ t. t * size b) e ∙ nat.zero-mul (size b)))))
  where
    go : (n : ℕ) → (n ≢ 0) → size b ≤ n * size b
    go zero f = absurd (f refl)
    go (suc n) f = omega (arith, nat.suc-mul n (size b))

pub size_within : (l : ℕ) (a : Gaussian) → Within l a → size a ≤ l * l + l * l
size_within l a f = omega (arith, nat.mul-le-mul f.0 f.0, nat.mul-le-mul f.1 f.1)
