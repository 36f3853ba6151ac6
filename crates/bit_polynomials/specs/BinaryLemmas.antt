-- Numbers as polynomials over the field of two: their digits, sums, shifts and sizes. Proofs that Laws needs.
--
--   binary_zero   the number 0 is the polynomial zero
--   binary_one    the number 1 is the polynomial one
--   binary_xor    exclusive or adds polynomials
--   minus_itself  each polynomial is its own opposite
--   binary_shift  a shift multiplies by a power
--   binary_once   different numbers are different polynomials
--   binary_held   a polynomial of at most m coefficients is that of a number below 2^m
--   small_size    a number below 2^m has at most m coefficients
--   size_small    and only such a number has
--   size_digits   a number from 2^j on and below the next power has j + 1 coefficients
use Rattle.std.specs.Prelude.{◌≡◌, ℕ, zero, suc, ◌+◌, ◌*◌, ◌/◌, ◌%◌, ◌^◌, ◌<◌, ◌≤◌, Bool, true, false, if◌then◌else◌, ◌⊎◌, ◌==◌, ◌≢◌, bit_xor, nat_eq, refl}
use Rattle.std.proofs.Common.{sym, ap, ap₂, subst, ◌∙◌, inl, inr, pow-suc, arith, pow_mono, shr-shr}
use Rattle.std.proofs.Math.Nat as nat
use Rattle.std.proofs.Math.Decide.{dec_le}
use Rattle.std.proofs.lemmas.Nat.{xor_shr, xor_mod}
use Rattle.std.proofs.lemmas.Bool.Decides.{eqb_tells, nat_tests}
use Rattle.algebra.proofs.Ring.{one_mul}
use Rattle.polynomials.specs.Polynomial.{Polynomial, size, null, add_power, drop_power, constant, plus, minus, times}
use Rattle.polynomials.proofs.Coefficients.{same_coefficients, null_coefficient, drop_power_coefficient, plus_coefficient, minus_coefficient}
use Rattle.polynomials.proofs.Laws.{polynomial_laws}
use Rattle.polynomials.proofs.Powers.{variable, powers, variable_times}
use Rattle.polynomials.proofs.Sizes.{at_most, size_null, drop_power_size}
use Rattle.bit_polynomials.specs.Two.{two, differ}
use Rattle.bit_polynomials.specs.Binary.{odd, bit, binary, below_power, bits_end}

binary_coefficient : (n k : ℕ) → (binary n).coefficient k ≡ bit n k
unfolding binary
binary_coefficient n k = refl

-- the digits of n after the first are those of its half
bit_half : (n k : ℕ) → bit n (suc k) ≡ bit (n / 2) k
bit_half n k = let e : suc k ≡ 1 + k = omega arith in ap odd (ap (λ j. n / 2 ^ j) e ∙ sym (shr-shr n 1 k))

bit_first : (n : ℕ) → bit n 0 ≡ odd n
bit_first n = let e : n / 1 ≡ n = omega arith in ap odd e

binary_half : (n : ℕ) → drop_power two (binary n) ≡ binary (n / 2)
binary_half n = same_coefficients two (drop_power two (binary n)) (binary (n / 2)) (λ k.
    drop_power_coefficient two (binary n) k ∙ binary_coefficient n (suc k) ∙ bit_half n k ∙ sym (binary_coefficient (n / 2) k))

binary_powers : (n : ℕ) → binary n ≡ add_power two (odd n) (binary (n / 2))
binary_powers n = powers two (binary n) ∙ ap₂ (add_power two) (binary_coefficient n 0 ∙ bit_first n) (binary_half n)

-- twice n, and a digit
binary_digit : (b : Bool) (n : ℕ) → binary (n * 2 + (if b then 1 else 0)) ≡ add_power two b (binary n)
binary_digit true n =
    let e : (n * 2 + 1) % 2 ≡ 1 = omega arith in
    let f : (n * 2 + 1) / 2 ≡ n = omega arith in
    binary_powers (n * 2 + 1) ∙ ap₂ (λ x y. add_power two (x == 1) (binary y)) e f
binary_digit false n =
    let e : (n * 2 + 0) % 2 ≡ 0 = omega arith in
    let f : (n * 2 + 0) / 2 ≡ n = omega arith in
    binary_powers (n * 2 + 0) ∙ ap₂ (λ x y. add_power two (x == 1) (binary y)) e f

pub binary_zero : binary 0 ≡ null two
binary_zero = same_coefficients two (binary 0) (null two) (λ k. binary_coefficient 0 k ∙ bits_end 0 0 (omega arith) k (omega arith) ∙ sym (null_coefficient two k))

pub binary_one : binary 1 ≡ constant two true
binary_one = binary_powers 1 ∙ ap (add_power two true) binary_zero

-- a remainder by two is one of two
parity : (n : ℕ) → (n % 2 ≡ 0) ⊎ (n % 2 ≡ 1)
parity n = by (eqb_tells (n % 2) 1)
  where
    by : (((n % 2 == 1) ≡ true) × (n % 2 ≡ 1)) ⊎ (((n % 2 == 1) ≡ false) × (n % 2 ≢ 1)) → (n % 2 ≡ 0) ⊎ (n % 2 ≡ 1)
    by (inl e) = inr e.1
    by (inr e) = inl (let d = e.1 in omega arith)

xor_parity : (a b : ℕ) → (a ≡ 0) ⊎ (a ≡ 1) → (b ≡ 0) ⊎ (b ≡ 1) → (bit_xor a b == 1) ≡ differ (a == 1) (b == 1)
xor_parity a b (inl d) (inl e) = rw (d, e) refl
xor_parity a b (inl d) (inr e) = rw (d, e) refl
xor_parity a b (inr d) (inl e) = rw (d, e) refl
xor_parity a b (inr d) (inr e) = rw (d, e) refl

odd_xor : (a b : ℕ) → odd (bit_xor a b) ≡ differ (odd a) (odd b)
odd_xor a b = ap (λ x. nat_eq x 1) (xor_mod a b 1) ∙ xor_parity (a % 2) (b % 2) (parity a) (parity b)

pub binary_xor : (a b : ℕ) → binary (bit_xor a b) ≡ plus two (binary a) (binary b)
binary_xor a b = same_coefficients two (binary (bit_xor a b)) (plus two (binary a) (binary b)) (λ k.
    binary_coefficient (bit_xor a b) k ∙ ap odd (xor_shr a b k) ∙ odd_xor (a / 2 ^ k) (b / 2 ^ k)
    ∙ sym (plus_coefficient two (binary a) (binary b) k ∙ ap₂ differ (binary_coefficient a k) (binary_coefficient b k)))

pub minus_itself : (p : Polynomial two) → minus two p ≡ p
minus_itself p = same_coefficients two (minus two p) p (minus_coefficient two p)

-- n moved up by s places
pub binary_shift : (s n : ℕ) → binary (n * 2 ^ s) ≡ times two (binary (2 ^ s)) (binary n)
binary_shift zero n = ap binary (nat.mul-one n) ∙ sym (ap (λ t. times two t (binary n)) binary_one ∙ one_mul (polynomial_laws two) (binary n))
binary_shift (suc s) n =
    twice (n * 2 ^ s) (n * 2 ^ suc s) (let e = pow-suc 2 s in ap (λ t. n * t) e ∙ sym (nat.mul_assoc n (2 ^ s) 2)) ∙ ap (times two (variable two)) (binary_shift s n)
    ∙ sym ((polynomial_laws two).mul_assoc (variable two) (binary (2 ^ s)) (binary n))
    ∙ ap (λ t. times two t (binary n)) (sym (twice (2 ^ s) (2 ^ suc s) (pow-suc 2 s)))
  where
    twice : (m k : ℕ) → k ≡ m * 2 → binary k ≡ times two (variable two) (binary m)
    twice m k e = let d : k ≡ m * 2 + 0 = omega arith in ap binary d ∙ binary_digit false m ∙ sym (variable_times two (binary m))

same_parity : (a b : ℕ) → odd a ≡ odd b → a % 2 ≡ b % 2
same_parity a b h = grind (arith, nat_tests)

once_below : (m a b : ℕ) → a < 2 ^ m → b < 2 ^ m → binary a ≡ binary b → a ≡ b
once_below zero a b l h e = omega arith
once_below (suc m) a b l h e =
    let p = pow-suc 2 m in
    let halves = once_below m (a / 2) (b / 2) (omega arith) (omega arith) (sym (binary_half a) ∙ ap (drop_power two) e ∙ binary_half b) in
    let firsts = same_parity a b (sym (bit_first a) ∙ sym (binary_coefficient a 0) ∙ ap (λ t. t.coefficient 0) e ∙ binary_coefficient b 0 ∙ bit_first b) in
    omega arith

-- different numbers are different polynomials
pub binary_once : (a b : ℕ) → binary a ≡ binary b → a ≡ b
binary_once a b = once_below (a + b) a b (below a (omega arith)) (below b (omega arith))
  where
    below : (n : ℕ) → n ≤ a + b → n < 2 ^ (a + b)
    below n l = let p : 2 ^ n ≤ 2 ^ (a + b) = pow_mono {i = n} {j = a + b} l in omega (arith, below_power n)

-- each polynomial of size m at most is that of a number below the m-th power of two
pub binary_held : (m : ℕ) (p : Polynomial two) → size two p ≤ m → (n : ℕ) × (n < 2 ^ m) × (binary n ≡ p)
binary_held zero p h = (0, omega arith, binary_zero ∙ sym (size_null two p (omega arith)))
binary_held (suc m) p h =
    let (n, l, e) = binary_held m (drop_power two p) (drop_power_size two p m h) in
    (n * 2 + (if p.coefficient 0 then 1 else 0), below (p.coefficient 0) n l, binary_digit (p.coefficient 0) n ∙ ap (add_power two (p.coefficient 0)) e ∙ sym (powers two p))
  where
    below : (b : Bool) (n : ℕ) → n < 2 ^ m → n * 2 + (if b then 1 else 0) < 2 ^ suc m
    below true n l = let e = pow-suc 2 m in omega arith
    below false n l = let e = pow-suc 2 m in omega arith

pub small_size : (m n : ℕ) → n < 2 ^ m → size two (binary n) ≤ m
small_size m n h = at_most two (binary n) m (λ k l. binary_coefficient n k ∙ bits_end m n h k l)

pub size_small : (m n : ℕ) → size two (binary n) ≤ m → n < 2 ^ m
size_small m n h = let (k, l, e) = binary_held m (binary n) h in subst (λ x. x < 2 ^ m) (binary_once k n e) l

-- the size is the number of binary digits
pub size_digits : (j n : ℕ) → 2 ^ j ≤ n → n < 2 ^ suc j → size two (binary n) ≡ suc j
size_digits j n l h = by (dec_le (size two (binary n)) j)
  where
    by : Dec (size two (binary n) ≤ j) → size two (binary n) ≡ suc j
    by (yes s) = let t = size_small j n s in absurd (omega arith)
    by (no s) = let t = small_size (suc j) n h in omega arith
