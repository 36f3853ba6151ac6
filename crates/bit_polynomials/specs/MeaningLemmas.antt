-- What elements mean fits, and whatever fits is meant. Proofs that Laws needs.
--
--   mean_fits  an element means a polynomial of at most 32 coefficients
--   held       each of those is meant by an element
--   word_fits  a number of which the polynomial fits is a word of 32 bits
--   unit_one   the unit that normalises is one, since every polynomial is normal
use Rattle.std.specs.Prelude.{◌≡◌, ℕ, ◌^◌, ◌<◌, ◌≤◌, if◌then◌else◌, nat_le}
use Rattle.std.proofs.Common.{sym, ap, ◌∙◌, arith}
use Rattle.std.proofs.lemmas.Bool.{true_from_ne_false}
use Rattle.std.proofs.lemmas.Bool.Decides.{nat_tests}
use Rattle.polynomials.specs.Polynomial.{Polynomial, size, null, constant, leading}
use Rattle.polynomials.proofs.Sizes.{null_size}
use Rattle.polynomials.proofs.Units.{leading_not_zero}
use Rattle.bit_polynomials.specs.Two.{two}
use Rattle.bit_polynomials.specs.Binary.{binary}
use Rattle.bit_polynomials.specs.Meaning.{meaning}
use Rattle.bit_polynomials.specs.declared.BitPolynomial.{BitPolynomial}
use Rattle.bit_polynomials.specs.BinaryLemmas.{small_size, size_small, binary_held, binary_one}

-- a word of 32 bits means the polynomial of its bits
word_means : (n : ℕ) → n < 2 ^ 32 → (if nat_le n 4294967295 then binary n else null two) ≡ binary n
word_means n h = grind (arith, nat_tests)

pub mean_fits : (e : BitPolynomial) → size two (meaning e) ≤ 32
mean_fits e = grind (arith, nat_tests, small_size 32 e.bits, null_size two)

pub held : (a : Polynomial two) → size two a ≤ 32 → (e : BitPolynomial) × (meaning e ≡ a)
held a h = let (n, l, e) = binary_held 32 a h in (record { bits = n }, word_means n l ∙ e)

pub word_fits : (n : ℕ) → size two (binary n) ≤ 32 → n ≤ 4294967295
word_fits n h = let l = size_small 32 n h in omega arith

-- over the field of two every polynomial is normal: the unit of each is one
pub unit_one : (p : Polynomial two) → binary 1 ≡ constant two (leading two p)
unit_one p = binary_one ∙ ap (constant two) (sym (true_from_ne_false (leading two p) (leading_not_zero two p)))
