-- Commutative rings on a type of members.
--
--   Ring       the operations: zero, one, add, neg (the opposite), mul
--   RingLaws   what makes the operations those of a commutative ring
--   Domain     one is not zero, and a product of nonzero members is nonzero
--   sub        a less b
--   Divides    some multiple of the first member is the second
--   Invertible a member with an inverse
use Rattle.std.specs.Prelude.{◌≡◌, ◌≢◌}

pub record Ring (A : Type 0) : Type 0 where
  pub zero : A
  pub one : A
  pub add : A → A → A
  pub neg : A → A
  pub mul : A → A → A

module _ {A : Type 0} (R : Ring A) where
  pub record RingLaws : Type 0 where
    pub add_assoc : (a b c : A) → R.add (R.add a b) c ≡ R.add a (R.add b c)
    pub add_comm : (a b : A) → R.add a b ≡ R.add b a
    pub add_zero : (a : A) → R.add a R.zero ≡ a
    pub add_neg : (a : A) → R.add a (R.neg a) ≡ R.zero
    pub mul_assoc : (a b c : A) → R.mul (R.mul a b) c ≡ R.mul a (R.mul b c)
    pub mul_comm : (a b : A) → R.mul a b ≡ R.mul b a
    pub mul_one : (a : A) → R.mul a R.one ≡ a
    pub mul_add : (a b c : A) → R.mul a (R.add b c) ≡ R.add (R.mul a b) (R.mul a c)

  pub record Domain : Type 0 where
    pub one_not_zero : R.one ≢ R.zero
    pub mul_not_zero : (a b : A) → (a ≢ R.zero) → (b ≢ R.zero) → R.mul a b ≢ R.zero

  abbrev pub sub : A → A → A
  sub a b = R.add a (R.neg b)

  abbrev pub Divides : A → A → Type 0
  Divides d a = (q : A) × (a ≡ R.mul q d)

  abbrev pub Invertible : A → Type 0
  Invertible u = (v : A) × (R.mul u v ≡ R.one)
