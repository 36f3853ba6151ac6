-- Division of Gaussian integers by rounding. Proofs that Laws needs.
--
--   divides         a member is quotient times divisor, and the remainder
--   half            the remainder has at most half the size of the divisor
--   smaller         so it is smaller than the divisor
--   same_remainder  members that differ by a multiple have one remainder
--   remainder_same  and only those
use Rattle.std.specs.Prelude.{◌≡◌, ◌≢◌, ℕ, suc, ◌+◌, ◌*◌, ◌<◌, ◌≤◌, [], ◌∷◌, ◌-ℤ◌, ◌*ℤ◌, unsigned_abs, refl}
use Rattle.std.proofs.Common.{sym, ap, ◌∙◌, arith}
use Rattle.std.proofs.Math.Nat as nat
use Rattle.algebra.specs.Ring.{sub, Divides}
use Rattle.algebra.proofs.Divides.{one_remainder}
use Rattle.algebra.proofs.Magnitudes.{at_most}
use Rattle.algebra.proofs.Solver.{ring, reify}
use Rattle.gaussian_integers.specs.Gaussian.{Gaussian, gauss, gaussian, conjugate, norm, size, nearest, quotient, remainder}
use Rattle.gaussian_integers.specs.Members.{parts_equal, gaussian_laws, mul_conjugate, mul_real}
use Rattle.gaussian_integers.specs.Norms.{abs_norm, size_mul, size_conjugate, size_positive, norm_positive}
use Rattle.gaussian_integers.specs.Rounding.{nearest_error, nearest_shift}

pub divides : (a b : Gaussian) → a ≡ gaussian.add (gaussian.mul (quotient a b) b) (remainder a b)
divides a b = left (quotient a b)
  where
    left : (q : Gaussian) → a ≡ gaussian.add (gaussian.mul q b) (sub gaussian a (gaussian.mul q b))
    left q = ring gaussian_laws (a ∷ b ∷ q ∷ []) (search reify depth 20) refl

-- q times b times the conjugate of b is q, scaled by the norm of b
scaled : (q b : Gaussian) → gaussian.mul (gaussian.mul q b) (conjugate b) ≡ gauss (q.re *ℤ norm b) (q.im *ℤ norm b)
scaled q b = gaussian_laws.mul_assoc q b (conjugate b) ∙ ap (gaussian.mul q) (mul_conjugate b) ∙ mul_real q (norm b)

-- by how much a times the conjugate of b is off q times the norm of b
abbrev off : Gaussian → Gaussian → Gaussian → Gaussian
off a b q = gauss ((gaussian.mul a (conjugate b)).re -ℤ q.re *ℤ norm b) ((gaussian.mul a (conjugate b)).im -ℤ q.im *ℤ norm b)

remainder_conjugate : (a b q : Gaussian) → gaussian.mul (sub gaussian a (gaussian.mul q b)) (conjugate b) ≡ off a b q
remainder_conjugate a b q = apart (gaussian.mul q b) (conjugate b) ∙ ap (sub gaussian (gaussian.mul a (conjugate b))) (scaled q b)
  where
    apart : (p c : Gaussian) → gaussian.mul (sub gaussian a p) c ≡ sub gaussian (gaussian.mul a c) (gaussian.mul p c)
    apart p c = ring gaussian_laws (a ∷ p ∷ c ∷ []) (search reify depth 20) refl

size_remainder : (a b q : Gaussian) → size (sub gaussian a (gaussian.mul q b)) * size b ≡ size (off a b q)
size_remainder a b q =
    ap (λ n. size (sub gaussian a (gaussian.mul q b)) * n) (sym (size_conjugate b))
    ∙ sym (size_mul (sub gaussian a (gaussian.mul q b)) (conjugate b))
    ∙ ap size (remainder_conjugate a b q)

four_squares : (e n : ℕ) → e + e ≤ n → e * e + e * e + (e * e + e * e) ≤ n * n
four_squares e n h = omega (arith, nat.mul-le-mul h h, nat.add-mul e e (e + e), nat.mul-add e e e)

-- r n = e² + f², with e and f at most n / 2, makes r at most n / 2
half_of_squares : (r n e f : ℕ) → 0 < n → r * n ≡ e * e + f * f → e + e ≤ n → f + f ≤ n → r + r ≤ n
half_of_squares r n e f h s p q = at_most (r + r) n (λ l. omega (arith, four_squares e n p, four_squares f n q, nat.mul-le-mul {n₁ = suc n} {m₁ = n} {n₂ = r + r} {m₂ = n} l (omega arith), nat.add-mul r r n, nat.suc-mul n n))

-- the remainder has at most half the size of the divisor
pub half : (a b : Gaussian) → (b ≢ gaussian.zero) → size (remainder a b) + size (remainder a b) ≤ size b
half a b h =
    half_of_squares (size (remainder a b)) (size b) (unsigned_abs (off a b (quotient a b)).re) (unsigned_abs (off a b (quotient a b)).im) (size_positive b h)
    (size_remainder a b (quotient a b))
    (rw (← abs_norm b) (nearest_error (gaussian.mul a (conjugate b)).re (norm b) (norm_positive b h)))
    (rw (← abs_norm b) (nearest_error (gaussian.mul a (conjugate b)).im (norm b) (norm_positive b h)))

pub smaller : (a b : Gaussian) → (b ≢ gaussian.zero) → size (remainder a b) < size b
smaller a b h = omega (arith, half a b h, size_positive b h)

-- k times b added to the dividend adds k to the quotient
quotient_shift : (a k b : Gaussian) → (b ≢ gaussian.zero) → quotient (gaussian.add a (gaussian.mul k b)) b ≡ gaussian.add (quotient a b) k
quotient_shift a k b h = parts_equal
    (ap (λ z. nearest z.re (norm b)) spread ∙ nearest_shift (gaussian.mul a (conjugate b)).re (norm b) k.re (norm_positive b h))
    (ap (λ z. nearest z.im (norm b)) spread ∙ nearest_shift (gaussian.mul a (conjugate b)).im (norm b) k.im (norm_positive b h))
  where
    apart : (p c : Gaussian) → gaussian.mul (gaussian.add a p) c ≡ gaussian.add (gaussian.mul a c) (gaussian.mul p c)
    apart p c = ring gaussian_laws (a ∷ p ∷ c ∷ []) (search reify depth 20) refl

    spread : gaussian.mul (gaussian.add a (gaussian.mul k b)) (conjugate b) ≡ gaussian.add (gaussian.mul a (conjugate b)) (gauss (k.re *ℤ norm b) (k.im *ℤ norm b))
    spread = apart (gaussian.mul k b) (conjugate b) ∙ ap (gaussian.add (gaussian.mul a (conjugate b))) (scaled k b)

-- and leaves the remainder
remainder_shift : (a k b : Gaussian) → (b ≢ gaussian.zero) → remainder (gaussian.add a (gaussian.mul k b)) b ≡ remainder a b
remainder_shift a k b h = ap (λ q. sub gaussian (gaussian.add a (gaussian.mul k b)) (gaussian.mul q b)) (quotient_shift a k b h) ∙ cancelled (quotient a b)
  where
    cancelled : (q : Gaussian) → sub gaussian (gaussian.add a (gaussian.mul k b)) (gaussian.mul (gaussian.add q k) b) ≡ sub gaussian a (gaussian.mul q b)
    cancelled q = ring gaussian_laws (a ∷ k ∷ b ∷ q ∷ []) (search reify depth 20) refl

pub same_remainder : (a b c : Gaussian) → (b ≢ gaussian.zero) → Divides gaussian b (sub gaussian a c) → remainder a b ≡ remainder c b
same_remainder a b c h (k, e) = ap (λ z. remainder z b) (again ∙ ap (gaussian.add c) e) ∙ remainder_shift c k b h
  where
    again : a ≡ gaussian.add c (sub gaussian a c)
    again = ring gaussian_laws (a ∷ c ∷ []) (search reify depth 20) refl

pub remainder_same : (a b c : Gaussian) → remainder a b ≡ remainder c b → Divides gaussian b (sub gaussian a c)
remainder_same a b c e = one_remainder gaussian_laws a c b (quotient a b) (quotient c b) (remainder c b) (divides a b ∙ ap (gaussian.add (gaussian.mul (quotient a b) b)) e) (divides c b)
