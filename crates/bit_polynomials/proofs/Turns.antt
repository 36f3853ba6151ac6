-- Lengths of words, and turns of the loops over them.
use Rattle.std.proofs.Common.{◌≡◌, ◌≢◌, ℕ, zero, suc, ◌+◌, ◌-◌, ◌*◌, ◌%◌, ◌^◌, ◌<◌, ◌≤◌, false, [], ◌∷◌, sym, refl, ap, ◌∙◌, subst, ap₂, subst₂, pow-suc, arith}
use Rattle.std.proofs.Math.Nat as nat
use Rattle.std.proofs.Math.Decide.{ℕ_discrete}
use Rattle.std.specs.Int.Bits.{bit_xor}
use Rattle.std.specs.Int.Count.{count_leading_zeros}
use Rattle.std.proofs.lemmas.Bool.{true_from_ne_false}
use Rattle.std.proofs.lemmas.Nat.{leading_length, shl_whole, one_shl, pow_pos}
use Rattle.algebra.specs.Ring.{sub}
use Rattle.algebra.proofs.Ring.{zero_add, zero_mul}
use Rattle.algebra.proofs.Solver.{ring, reify}
use Rattle.polynomials.specs.Polynomial.{Polynomial, size, null, plus, times, polynomials, quotient, remainder}
use Rattle.polynomials.proofs.Coefficients.{plus_coefficient}
use Rattle.polynomials.proofs.Laws.{polynomial_laws}
use Rattle.polynomials.proofs.Sizes.{at_most, size_null, degree, times_size}
use Rattle.polynomials.proofs.Division.{division, division_once}
use Rattle.bit_polynomials.specs.Two.{two, differ}
use Rattle.bit_polynomials.specs.Binary.{binary}
use Rattle.bit_polynomials.specs.BinaryLemmas.{binary_zero, binary_xor, binary_shift, minus_itself, small_size, size_small, size_digits}

pub length_is : (a : ℕ) → a < 2 ^ 32 → 32 - count_leading_zeros 32 a ≡ size two (binary a)
length_is a h = let (m, e, l, t) = leading_length 32 a h in by m e l t
  where
    by : (m : ℕ) → count_leading_zeros 32 a + m ≡ 32 → a < 2 ^ m → 2 ^ m ≤ 2 * a + 1 → 32 - count_leading_zeros 32 a ≡ size two (binary a)
    by zero e l t = let s = small_size 0 a l in omega arith
    by (suc j) e l t = let p = pow-suc 2 j in let s = size_digits j a (omega arith) l in omega arith

-- in a sum of two polynomials of one degree the highest power falls away
top_cancels : (p q : Polynomial two) (m : ℕ) → size two p ≡ suc m → size two q ≡ suc m → size two (plus two p q) ≤ m
top_cancels p q m d e = at_most two (plus two p q) m (λ k l. plus_coefficient two p q k ∙ at k l (ℕ_discrete k m))
  where
    at : (k : ℕ) → m ≤ k → Dec (k ≡ m) → differ (p.coefficient k) (q.coefficient k) ≡ false
    at k l (yes i) = ap₂ differ (ap p.coefficient i ∙ true_from_ne_false (p.coefficient m) (p.exact.top m d)) (ap q.coefficient i ∙ true_from_ne_false (q.coefficient m) (q.exact.top m e))
    at k l (no i) = ap₂ differ (p.exact.beyond k (omega arith)) (q.exact.beyond k (omega arith))

binary_difference : (a b : ℕ) → binary (bit_xor a b) ≡ sub (polynomials two) (binary a) (binary b)
binary_difference a b = binary_xor a b ∙ ap (plus two (binary a)) (sym (minus_itself (binary b)))

power_size : (s : ℕ) → size two (binary (2 ^ s)) ≡ suc s
power_size s = let e = pow-suc 2 s in let p = pow_pos s in size_digits s (2 ^ s) (omega arith) (omega arith)

shift_size : (s b n : ℕ) → size two (binary b) ≡ suc n → size two (binary (b * 2 ^ s)) ≡ suc (s + n)
shift_size s b n e = ap (size two) (binary_shift s b) ∙ times_size two (binary (2 ^ s)) (binary b) s n (power_size s) e

-- b, moved up to the highest power of `left` and taken away from it, leaves fewer powers
turn_smaller : (left b s n : ℕ) → size two (binary b) ≡ suc n → size two (binary left) ≡ suc (s + n) → size two (binary (bit_xor left (b * 2 ^ s))) < size two (binary left)
turn_smaller left b s n e f =
    let l = top_cancels (binary left) (binary (b * 2 ^ s)) (s + n) f (shift_size s b n e) in
    let x = ap (size two) (binary_xor left (b * 2 ^ s)) in
    omega arith

-- b moved up by s stays in a word of w bits
shift_whole : (w b s n : ℕ) → size two (binary b) ≤ n → n + s ≤ w → (b * 2 ^ s) % 2 ^ w ≡ b * 2 ^ s
shift_whole w b s n l h = shl_whole b n s w (size_small n b l) h

-- one turn of the product: b times a power of `left` goes over to the total
multiply_turn : (total left b s : ℕ) (p : Polynomial two) → plus two (binary total) (times two (binary left) (binary b)) ≡ p
    → plus two (binary (bit_xor total (b * 2 ^ s))) (times two (binary (bit_xor left (2 ^ s))) (binary b)) ≡ p
multiply_turn total left b s p e =
    ap₂ (λ t u. plus two t (times two u (binary b))) (binary_xor total (b * 2 ^ s) ∙ ap (plus two (binary total)) (binary_shift s b)) (binary_difference left (2 ^ s))
    ∙ ring (polynomial_laws two) (binary total ∷ binary left ∷ binary b ∷ binary (2 ^ s) ∷ []) {y = plus two (binary total) (times two (binary left) (binary b))} (search reify depth 20) refl
    ∙ e

-- one turn of the division: b times a power goes from what is left over to the quotient
division_turn : (q left b s : ℕ) (p : Polynomial two) → p ≡ plus two (times two (binary q) (binary b)) (binary left)
    → p ≡ plus two (times two (binary (bit_xor q (2 ^ s))) (binary b)) (binary (bit_xor left (b * 2 ^ s)))
division_turn q left b s p e =
    e ∙ ring (polynomial_laws two) (binary q ∷ binary left ∷ binary b ∷ binary (2 ^ s) ∷ [])
    {y = plus two (times two (plus two (binary q) (binary (2 ^ s))) (binary b)) (sub (polynomials two) (binary left) (times two (binary (2 ^ s)) (binary b)))} (search reify depth 20) refl
    ∙ sym (ap₂ (λ t u. plus two (times two t (binary b)) u) (binary_xor q (2 ^ s)) (binary_difference left (b * 2 ^ s) ∙ ap (sub (polynomials two) (binary left)) (binary_shift s b)))

pub multiply_start : (p : Polynomial two) → plus two (binary 0) p ≡ p
multiply_start p = ap (λ t. plus two t p) binary_zero ∙ zero_add (polynomial_laws two) p

pub multiply_end : (total left : ℕ) (b : Polynomial two) → size two (binary left) ≡ 0 → plus two (binary total) (times two (binary left) b) ≡ binary total
multiply_end total left b z = ap (plus two (binary total)) (ap (λ t. times two t b) (size_null two (binary left) z) ∙ zero_mul (polynomial_laws two) b) ∙ (polynomial_laws two).add_zero (binary total)

pub division_start : (a b : Polynomial two) → a ≡ plus two (times two (binary 0) b) a
division_start a b = sym (ap (λ t. plus two (times two t b) a) binary_zero ∙ ap (λ t. plus two t a) (zero_mul (polynomial_laws two) b) ∙ zero_add (polynomial_laws two) a)

pub division_end : (a b q r : Polynomial two) → (b ≢ null two) → a ≡ plus two (times two q b) r → size two r < size two b → (q ≡ quotient two a b) × (r ≡ remainder two a b)
division_end a b q r h e l = division_once two a b q r (quotient two a b) (remainder two a b) h (record { is = e; smaller = l }) (division two a b h)

-- a turn of the product's loop on words: n is the size of what is left of a
module _ (left n : ℕ) (is : n ≡ size two (binary left)) (some : 0 < n) (few : n ≤ 32) where
  power : (1 * 2 ^ (n - 1)) % 2 ^ 32 ≡ 2 ^ (n - 1)
  power = one_shl (n - 1) 32 (omega arith)

  pub product_less : size two (binary (bit_xor left ((1 * 2 ^ (n - 1)) % 2 ^ 32))) < size two (binary left)
  product_less =
      let e : size two (binary left) ≡ suc (n - 1 + 0) = omega arith in
      subst (λ y. size two (binary (bit_xor left y)) < size two (binary left)) (nat.one-mul (2 ^ (n - 1)) ∙ sym power) (turn_smaller left 1 (n - 1) 0 (power_size 0) e)

  pub product_again : (total b : ℕ) (p : Polynomial two) → b < 2 ^ 32 → plus two (binary total) (times two (binary left) (binary b)) ≡ p
      → plus two (binary (bit_xor total ((b * 2 ^ (n - 1)) % 2 ^ 64))) (times two (binary (bit_xor left ((1 * 2 ^ (n - 1)) % 2 ^ 32))) (binary b)) ≡ p
  product_again total b p word e =
      let moved = shift_whole 64 b (n - 1) 32 (small_size 32 b word) (omega arith) in
      subst₂ (λ x y. plus two (binary (bit_xor total x)) (times two (binary (bit_xor left y)) (binary b)) ≡ p) (sym moved) (sym power) (multiply_turn total left b (n - 1) p e)

-- a turn of the division's loop on words: n is the size of b, and m that of what is left
module _ (q left b n m : ℕ) (is_b : n ≡ size two (binary b)) (is-left : m ≡ size two (binary left)) (some : binary b ≢ null two) (enough : n ≤ m) (few : m ≤ 32) where
  positive : 0 < n
  positive = let (d, e) = degree two (binary b) some in omega arith

  pub shift_fits : m - n < 32
  shift_fits = let p = positive in omega arith

  up : (b * 2 ^ (m - n)) % 2 ^ 32 ≡ b * 2 ^ (m - n)
  up = shift_whole 32 b (m - n) n (omega arith) (omega arith)

  pub division_again : (p : Polynomial two) → p ≡ plus two (times two (binary q) (binary b)) (binary left)
      → p ≡ plus two (times two (binary (bit_xor q ((1 * 2 ^ (m - n)) % 2 ^ 32))) (binary b)) (binary (bit_xor left ((b * 2 ^ (m - n)) % 2 ^ 32)))
  division_again p e = subst₂ (λ x y. p ≡ plus two (times two (binary (bit_xor q x)) (binary b)) (binary (bit_xor left y))) (sym (one_shl (m - n) 32 shift_fits)) (sym up) (division_turn q left b (m - n) p e)

  pub division_less : size two (binary (bit_xor left ((b * 2 ^ (m - n)) % 2 ^ 32))) < size two (binary left)
  division_less =
      let (d, e) = degree two (binary b) some in
      let f : size two (binary left) ≡ suc (m - n + d) = omega arith in
      subst (λ y. size two (binary (bit_xor left y)) < size two (binary left)) (sym up) (turn_smaller left b (m - n) d e f)

-- what the loops of `multiply` and `long_division` need
pub ruleset product_turns = (multiply_start, multiply_end, product_again, product_less)

pub ruleset division_turns = (division_start, division_end, division_again, division_less, shift_fits)
