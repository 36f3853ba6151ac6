-- What the elements and the sums of a kind mean.
--
--   Model      of the elements E and the sums S of a kind:
--     Member     the members of the kind's ring
--     ring       its operations
--     Fits       the members that an element can hold
--     mean       the member that an element means
--     total      the member that a sum means
--     count      how many products a sum has taken
--     size       the Euclidean size of a member
--     quotient   of the first member by the second
--     remainder  of the first member by the second
--     Normal     the members in normal form
--     unit       the unit that brings a member to its normal form
--     inverse    the inverse of that unit
--   product    what two elements mean, multiplied
use Rattle.std.specs.Prelude.{ℕ}
use Rattle.algebra.specs.Ring.{Ring}

pub record Model (E S : Type 0) : Type 1 where
  pub Member : Type 0
  pub ring : Ring Member
  pub Fits : Member → Type 0
  pub mean : E → Member
  pub total : S → Member
  pub count : S → ℕ
  pub size : Member → ℕ
  pub quotient : Member → Member → Member
  pub remainder : Member → Member → Member
  pub Normal : Member → Type 0
  pub unit : Member → Member
  pub inverse : Member → Member

abbrev pub product : {E S : Type 0} (m : Model E S) → E → E → m.Member
product m a b = m.ring.mul (m.mean a) (m.mean b)
