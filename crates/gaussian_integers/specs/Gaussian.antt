-- The Gaussian integers: x + y·i with integers x and y, where i·i = -1.
--
--   Gaussian   a Gaussian integer: its real part re and its imaginary part im
--   gauss      the Gaussian integer of two parts
--   gaussian   the ring of the Gaussian integers
--   conjugate  the same real part, and the opposite imaginary part
--   norm       the sum of the squared parts: a member times its conjugate
--   size       the norm, as a natural number
--   nearest    x / n to the nearest whole number, halves upward, where n is above 0
--   rounded    each part over n, to the nearest whole number
--   quotient   the exact quotient, with each part to the nearest whole number, halves upward
--   remainder  what the quotient leaves
--   Within     both parts are at most l in magnitude
--   Normal     zero, or real part above 0 and imaginary part not below 0
--   second     whether re ≤ 0 < im: the second quadrant
--   third      whether re < 0 and im ≤ 0: the third quadrant
--   fourth     whether im < 0 ≤ re: the fourth quadrant
--   unit       the unit that turns a member into its normal form: -i from the second quadrant, -1 from the
--              third, i from the fourth, else 1
--   inverse    the inverse of that unit, which is its conjugate
use Rattle.std.specs.Prelude.{◌≡◌, ℕ, ◌+◌, ◌*◌, ◌≤◌, Bool, if◌then◌else◌, ◌&&◌, ◌⊎◌, ℤ, pos, negsuc, ◌+ℤ◌, ◌-ℤ◌, ◌*ℤ◌, neg_ℤ, ◌≤ℤ◌, ◌<ℤ◌, int_le, int_lt, unsigned_abs}
use Rattle.std.specs.Int.{int_div_euclid}
use Rattle.algebra.specs.Ring.{Ring, sub}

pub record Gaussian : Type 0 where
  pub re : ℤ
  pub im : ℤ

abbrev pub gauss : ℤ → ℤ → Gaussian
gauss x y = record { re = x; im = y }

abbrev pub gaussian : Ring Gaussian
gaussian = record {
  zero = gauss (pos 0) (pos 0);
  one = gauss (pos 1) (pos 0);
  add = λ a b. gauss (a.re +ℤ b.re) (a.im +ℤ b.im);
  neg = λ a. gauss (neg_ℤ a.re) (neg_ℤ a.im);
  mul = λ a b. gauss (a.re *ℤ b.re -ℤ a.im *ℤ b.im) (a.re *ℤ b.im +ℤ a.im *ℤ b.re);
}

abbrev pub conjugate : Gaussian → Gaussian
conjugate a = gauss a.re (neg_ℤ a.im)

abbrev pub norm : Gaussian → ℤ
norm a = a.re *ℤ a.re +ℤ a.im *ℤ a.im

abbrev pub size : Gaussian → ℕ
size a = unsigned_abs a.re * unsigned_abs a.re + unsigned_abs a.im * unsigned_abs a.im

-- the floor of x / n + 1 / 2
abbrev pub nearest : ℤ → ℤ → ℤ
nearest x n = int_div_euclid (x +ℤ x +ℤ n) (n +ℤ n)

abbrev pub rounded : Gaussian → ℤ → Gaussian
rounded a n = gauss (nearest a.re n) (nearest a.im n)

-- a / b is a times the conjugate of b, over the norm of b
abbrev pub quotient : Gaussian → Gaussian → Gaussian
quotient a b = rounded (gaussian.mul a (conjugate b)) (norm b)

abbrev pub remainder : Gaussian → Gaussian → Gaussian
remainder a b = sub gaussian a (gaussian.mul (quotient a b) b)

abbrev pub Within : ℕ → Gaussian → Type 0
Within l a = (unsigned_abs a.re ≤ l) × (unsigned_abs a.im ≤ l)

abbrev pub Normal : Gaussian → Type 0
Normal a = (a ≡ gaussian.zero) ⊎ ((pos 0 <ℤ a.re) × (pos 0 ≤ℤ a.im))

abbrev pub second : Gaussian → Bool
second a = int_le a.re (pos 0) && int_lt (pos 0) a.im

abbrev pub third : Gaussian → Bool
third a = int_lt a.re (pos 0) && int_le a.im (pos 0)

abbrev pub fourth : Gaussian → Bool
fourth a = int_le (pos 0) a.re && int_lt a.im (pos 0)

abbrev pub unit : Gaussian → Gaussian
unit a = if second a then gauss (pos 0) (negsuc 0) else if third a then gauss (negsuc 0) (pos 0) else if fourth a then gauss (pos 0) (pos 1) else gauss (pos 1) (pos 0)

abbrev pub inverse : Gaussian → Gaussian
inverse a = conjugate (unit a)
