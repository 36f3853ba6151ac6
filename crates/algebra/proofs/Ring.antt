-- What follows from the laws of a commutative ring.
use Rattle.std.proofs.Common.{◌≡◌, sym, ap, ◌∙◌, ap₂}
use Rattle.algebra.specs.Ring.{Ring, RingLaws, sub}

module _ {A : Type 0} {R : Ring A} (laws : RingLaws R) where
  infixl 60 ◌⊞◌
  infixl 70 ◌⊡◌
  open R use {zero as O#, one as I#, add as ◌⊞◌, mul as ◌⊡◌, neg as neg#}
  open laws use {add_assoc, add_comm, add_zero, add_neg, mul_assoc, mul_comm, mul_one, mul_add}

  pub zero_add : (x : A) → O# ⊞ x ≡ x
  zero_add x = add_comm O# x ∙ add_zero x

  pub one_mul : (x : A) → I# ⊡ x ≡ x
  one_mul x = mul_comm I# x ∙ mul_one x

  pub add_left_comm : (x y z : A) → x ⊞ (y ⊞ z) ≡ y ⊞ (x ⊞ z)
  add_left_comm x y z = sym (add_assoc x y z) ∙ ap (λ t. t ⊞ z) (add_comm x y) ∙ add_assoc y x z

  pub mul_left_comm : (x y z : A) → x ⊡ (y ⊡ z) ≡ y ⊡ (x ⊡ z)
  mul_left_comm x y z = sym (mul_assoc x y z) ∙ ap (λ t. t ⊡ z) (mul_comm x y) ∙ mul_assoc y x z

  pub add_mul : (x y z : A) → (x ⊞ y) ⊡ z ≡ x ⊡ z ⊞ y ⊡ z
  add_mul x y z = mul_comm (x ⊞ y) z ∙ mul_add z x y ∙ ap₂ ◌⊞◌ (mul_comm z x) (mul_comm z y)

  pub neg_add_cancel : (x y : A) → neg# x ⊞ (x ⊞ y) ≡ y
  neg_add_cancel x y = sym (add_assoc (neg# x) x y) ∙ ap (λ t. t ⊞ y) (add_comm (neg# x) x ∙ add_neg x) ∙ zero_add y

  pub add_left_cancel : (x y z : A) → x ⊞ y ≡ x ⊞ z → y ≡ z
  add_left_cancel x y z h = sym (neg_add_cancel x y) ∙ ap (λ t. neg# x ⊞ t) h ∙ neg_add_cancel x z

  pub neg_unique : (x y : A) → x ⊞ y ≡ O# → y ≡ neg# x
  neg_unique x y h = add_left_cancel x y (neg# x) (h ∙ sym (add_neg x))

  pub mul_zero : (x : A) → x ⊡ O# ≡ O#
  mul_zero x = add_left_cancel (x ⊡ O#) (x ⊡ O#) O# (sym (mul_add x O# O#) ∙ ap (λ t. x ⊡ t) (add_zero O#) ∙ sym (add_zero (x ⊡ O#)))

  pub zero_mul : (x : A) → O# ⊡ x ≡ O#
  zero_mul x = mul_comm O# x ∙ mul_zero x

  pub mul_neg : (x y : A) → x ⊡ neg# y ≡ neg# (x ⊡ y)
  mul_neg x y = neg_unique (x ⊡ y) (x ⊡ neg# y) (sym (mul_add x y (neg# y)) ∙ ap (λ t. x ⊡ t) (add_neg y) ∙ mul_zero x)

  pub neg_mul : (x y : A) → neg# x ⊡ y ≡ neg# (x ⊡ y)
  neg_mul x y = mul_comm (neg# x) y ∙ mul_neg y x ∙ ap neg# (mul_comm y x)

  pub neg_neg : (x : A) → neg# (neg# x) ≡ x
  neg_neg x = sym (neg_unique (neg# x) x (add_comm (neg# x) x ∙ add_neg x))

  pub neg_zero : neg# O# ≡ O#
  neg_zero = sym (neg_unique O# O# (add_zero O#))

  pub neg_add : (x y : A) → neg# (x ⊞ y) ≡ neg# x ⊞ neg# y
  neg_add x y = sym (neg_unique (x ⊞ y) (neg# x ⊞ neg# y)
      (add_assoc x y (neg# x ⊞ neg# y) ∙ ap (λ t. x ⊞ t) (add_left_comm y (neg# x) (neg# y) ∙ ap (λ t. neg# x ⊞ t) (add_neg y) ∙ add_zero (neg# x)) ∙ add_neg x))

  pub sub_self : (x y : A) → x ≡ y → sub R x y ≡ O#
  sub_self x y h = ap (λ t. t ⊞ neg# y) h ∙ add_neg y

  pub sub_zero : (x y : A) → sub R x y ≡ O# → x ≡ y
  sub_zero x y h = sym (neg_neg x) ∙ ap neg# (sym (neg_unique x (neg# y) h)) ∙ neg_neg y
