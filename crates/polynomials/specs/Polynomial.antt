-- Polynomials in one variable x over a field.
--
--   Sized               the size of a sequence: zero from there on, and not zero at the place before
--   trimmed             the size of a sequence, where a bound of it is known
--   Polynomial          coefficients with their size; the one at place k belongs to the k-th power of x
--   size                0 for the zero polynomial, else its degree + 1
--   polynomial          the one of given coefficients
--   null                the zero polynomial
--   add_power           a constant, and x times a polynomial
--   drop_power          a polynomial without its constant, divided by x
--   constant            a polynomial without x
--   plus                sum, power by power
--   minus               the opposite, power by power
--   times               product: the convolution of the coefficients
--   polynomials         the ring of the polynomials over a field
--   long_division       quotient and remainder of a, of size n at most, by b, of degree d: from the highest power of a down
--   quotient            of a by b
--   remainder           of a by b, of smaller size than b
--   coefficient_before  the coefficient at the place before n; one where there is none
--   leading             the coefficient of the highest power; one for the zero polynomial
--   unit                the constant that makes the leading coefficient one
--   inverse             the inverse of that constant
use Rattle.std.specs.Prelude.{◌≡◌, ◌≢◌, refl, ℕ, zero, suc, pred, ◌+◌}
use Rattle.std.proofs.Common.{ap, ap₂, ◌∙◌, arith}
use Rattle.algebra.specs.Ring.{Ring}
use Rattle.algebra.specs.Field.{Field}
use Rattle.algebra.specs.Sequence.{Ends, before, convolution}
use Rattle.algebra.proofs.Ring.{neg_zero}
use Rattle.algebra.proofs.Sequence.{ends_sooner, before_ends}
use Rattle.algebra.proofs.Convolution.{convolution_ends}

module _ {F : Type 0} (K : Field F) where
  open K use {ring as R}

  pub record Sized (f : ℕ → F) : Type 0 where
    pub size : ℕ
    pub beyond : Ends R f size
    pub top : (k : ℕ) → size ≡ suc k → f k ≢ R.zero

  unfoldable pub trimmed : (f : ℕ → F) (n : ℕ) → Ends R f n → Sized f
  trimmed f zero h = record { size = 0; beyond = h; top = λ k e. absurd (omega arith) }
  trimmed f (suc n) h = from (K.same (f n) R.zero) (trimmed f n)
    where
      from : Dec (f n ≡ R.zero) → (Ends R f n → Sized f) → Sized f
      from (yes e) shorter = shorter (ends_sooner R f n e h)
      from (no d) shorter = record { size = suc n; beyond = h; top = λ k e z. d (ap f (omega arith) ∙ z) }

  pub record Polynomial : Type 0 where
    pub coefficient : ℕ → F
    pub exact : Sized coefficient

  abbrev pub size : Polynomial → ℕ
  size p = p.exact.size

  abbrev pub polynomial : (f : ℕ → F) (n : ℕ) → Ends R f n → Polynomial
  polynomial f n h = record { coefficient = f; exact = trimmed f n h }

  unfoldable pub null : Polynomial
  null = polynomial (λ _. R.zero) 0 (λ _ _. refl)

  unfoldable pub add_power : F → Polynomial → Polynomial
  add_power c p = polynomial (before c p.coefficient) (suc (size p)) (before_ends R c p.coefficient (size p) p.exact.beyond)

  unfoldable pub drop_power : Polynomial → Polynomial
  drop_power p = polynomial (λ k. p.coefficient (suc k)) (size p) (λ k l. p.exact.beyond (suc k) (omega arith))

  abbrev pub constant : F → Polynomial
  constant c = add_power c null

  unfoldable pub plus : Polynomial → Polynomial → Polynomial
  plus p q = polynomial (λ k. R.add (p.coefficient k) (q.coefficient k)) (size p + size q)
      (λ k l. ap₂ R.add (p.exact.beyond k (omega arith)) (q.exact.beyond k (omega arith)) ∙ K.laws.add_zero R.zero)

  unfoldable pub minus : Polynomial → Polynomial
  minus p = polynomial (λ k. R.neg (p.coefficient k)) (size p) (λ k l. ap R.neg (p.exact.beyond k l) ∙ neg_zero K.laws)

  unfoldable pub times : Polynomial → Polynomial → Polynomial
  times p q = polynomial (convolution R p.coefficient q.coefficient) (size p + size q)
      (convolution_ends K.laws (size p) (size q) p.coefficient q.coefficient p.exact.beyond (λ k l. q.exact.beyond k (omega arith)))

  abbrev pub polynomials : Ring Polynomial
  polynomials = record { zero = null; one = constant R.one; add = plus; neg = minus; mul = times }

  abbrev pub long_division : (n d : ℕ) (a b : Polynomial) → Polynomial × Polynomial
  long_division zero d a b = (null, null)
  long_division (suc n) d a b =
      let (q, r) = long_division n d (drop_power a) b in
      let s : Polynomial = add_power (a.coefficient 0) r in
      let c : F = R.mul (s.coefficient d) (K.inverse (b.coefficient d)) in
      (add_power c q, plus s (minus (times (constant c) b)))

  abbrev pub quotient : Polynomial → Polynomial → Polynomial
  quotient a b = (long_division (size a) (pred (size b)) a b).0

  abbrev pub remainder : Polynomial → Polynomial → Polynomial
  remainder a b = (long_division (size a) (pred (size b)) a b).1

  abbrev pub coefficient_before : Polynomial → ℕ → F
  coefficient_before a zero = R.one
  coefficient_before a (suc k) = a.coefficient k

  abbrev pub leading : Polynomial → F
  leading a = coefficient_before a (size a)

  abbrev pub unit : Polynomial → Polynomial
  unit a = constant (K.inverse (leading a))

  abbrev pub inverse : Polynomial → Polynomial
  inverse a = constant (leading a)
