-- The laws of a kind, beside those of its ring.
--
--   RangeLaws     which members fit, and that elements mean exactly those
--   SizeLaws      size is 0 exactly for zero, small for elements, and monotone under multiples
--   DivisionLaws  quotient and remainder by a nonzero member
--   NormalLaws    one normal member among a member and its unit multiples
use Rattle.std.specs.Prelude.{◌≡◌, ◌^◌, ◌<◌, ◌≤◌, ◌≢◌}
use Rattle.algebra.specs.Ring.{sub, Divides, Invertible}
use Rattle.kinds.specs.Model.{Model}

module _ {E S : Type 0} (m : Model E S) where
  pub record RangeLaws : Type 0 where
    pub zero_fits : m.Fits m.ring.zero
    pub one_fits : m.Fits m.ring.one
    pub unit_fits : (u a : m.Member) → Invertible m.ring u → m.Fits a → m.Fits (m.ring.mul u a)
    pub mean_fits : (e : E) → m.Fits (m.mean e)
    pub held : (a : m.Member) → m.Fits a → (e : E) × (m.mean e ≡ a)

  pub record SizeLaws : Type 0 where
    pub size_zero : m.size m.ring.zero ≡ 0
    pub zero_size : (a : m.Member) → m.size a ≡ 0 → a ≡ m.ring.zero
    pub size_small : (e : E) → m.size (m.mean e) < 2 ^ 63
    pub size_multiple : (a b : m.Member) → (a ≢ m.ring.zero) → Divides m.ring b a → m.size b ≤ m.size a

  pub record DivisionLaws : Type 0 where
    pub divides : (a b : m.Member) → (b ≢ m.ring.zero) → a ≡ m.ring.add (m.ring.mul (m.quotient a b) b) (m.remainder a b)
    pub smaller : (a b : m.Member) → (b ≢ m.ring.zero) → m.size (m.remainder a b) < m.size b
    pub quotient_fits : (a b : m.Member) → (b ≢ m.ring.zero) → m.Fits a → m.Fits b → m.Fits (m.quotient a b)
    pub remainder_fits : (a b : m.Member) → (b ≢ m.ring.zero) → m.Fits a → m.Fits b → m.Fits (m.remainder a b)
    -- two dividends have the same remainder exactly when their difference is a multiple of the divisor
    pub same_remainder : (a b c : m.Member) → (b ≢ m.ring.zero) → Divides m.ring b (sub m.ring a c) → m.remainder a b ≡ m.remainder c b
    pub remainder_same : (a b c : m.Member) → (b ≢ m.ring.zero) → m.remainder a b ≡ m.remainder c b → Divides m.ring b (sub m.ring a c)

  pub record NormalLaws : Type 0 where
    pub unit_inverse : (a : m.Member) → m.ring.mul (m.unit a) (m.inverse a) ≡ m.ring.one
    pub unit_zero : m.unit m.ring.zero ≡ m.ring.one
    pub inverse_zero : m.inverse m.ring.zero ≡ m.ring.one
    pub normal : (a : m.Member) → m.Normal (m.ring.mul (m.unit a) a)
    pub normal_once : (a u : m.Member) → Invertible m.ring u → m.Normal a → m.Normal (m.ring.mul u a) → m.ring.mul u a ≡ a
