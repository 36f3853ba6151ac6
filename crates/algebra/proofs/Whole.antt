-- The integers are a commutative ring.
use Rattle.std.proofs.Common.{◌≡◌, zero, suc, ℤ, pos, negsuc, ◌+ℤ◌, ◌*ℤ◌, neg_ℤ, unsigned_abs, sym, ap, ◌∙◌, arith}
use Rattle.std.proofs.Math.Nat as nat
use Rattle.std.proofs.Math.IntN.{suc_ℤ, pred_ℤ, suc_ℤ-*ℤ, pred_ℤ-*ℤ, zero-*ℤ, *ℤ_comm, +ℤ_assoc, +ℤ_comm, +ℤ_idl, +ℤ_idr, +ℤ_invr, suc_ℤ-+ℤ, pred_ℤ-+ℤ}
use Rattle.std.proofs.lemmas.Int.{ints}
use Rattle.algebra.specs.Ring.{RingLaws, Domain}
use Rattle.algebra.specs.Whole.{whole}
use Rattle.algebra.proofs.Magnitudes.{mul_not_zero}

-- by steps of one, up and down from zero
by_steps : (P : ℤ → Type 0) → P (pos 0) → ((a : ℤ) → P a → P (suc_ℤ a)) → ((a : ℤ) → P a → P (pred_ℤ a)) → (a : ℤ) → P a
by_steps P z s p (pos zero) = z
by_steps P z s p (pos (suc n)) = s (pos n) (by_steps P z s p (pos n))
by_steps P z s p (negsuc zero) = p (pos 0) z
by_steps P z s p (negsuc (suc n)) = p (negsuc n) (by_steps P z s p (negsuc n))

add_mul : (a b c : ℤ) → (a +ℤ b) *ℤ c ≡ (a *ℤ c) +ℤ (b *ℤ c)
add_mul a b c =
    by_steps (λ x. (x +ℤ b) *ℤ c ≡ (x *ℤ c) +ℤ (b *ℤ c))
    (ap (λ x. x *ℤ c) (+ℤ_idl b) ∙ sym (ap (λ x. x +ℤ (b *ℤ c)) (zero-*ℤ c) ∙ +ℤ_idl (b *ℤ c)))
    (λ x h. ap (λ y. y *ℤ c) (suc_ℤ-+ℤ x b) ∙ omega (arith, ints, suc_ℤ-*ℤ (x +ℤ b) c, suc_ℤ-*ℤ x c))
    (λ x h. ap (λ y. y *ℤ c) (pred_ℤ-+ℤ x b) ∙ omega (arith, ints, pred_ℤ-*ℤ (x +ℤ b) c, pred_ℤ-*ℤ x c))
    a

mul_add : (a b c : ℤ) → a *ℤ (b +ℤ c) ≡ (a *ℤ b) +ℤ (a *ℤ c)
mul_add a b c = *ℤ_comm a (b +ℤ c) ∙ add_mul b c a ∙ ap (λ x. x +ℤ (c *ℤ a)) (*ℤ_comm b a) ∙ ap (λ x. (a *ℤ b) +ℤ x) (*ℤ_comm c a)

pub neg_mul : (b c : ℤ) → neg_ℤ b *ℤ c ≡ neg_ℤ (b *ℤ c)
neg_mul b c =
    let e = add_mul b (neg_ℤ b) c in
    let z = ap (λ x. x *ℤ c) (+ℤ_invr b) ∙ zero-*ℤ c in
    omega (arith, ints)

mul_assoc : (a b c : ℤ) → (a *ℤ b) *ℤ c ≡ a *ℤ (b *ℤ c)
mul_assoc a b c =
    by_steps (λ x. (x *ℤ b) *ℤ c ≡ x *ℤ (b *ℤ c))
    (ap (λ x. x *ℤ c) (zero-*ℤ b) ∙ zero-*ℤ c ∙ sym (zero-*ℤ (b *ℤ c)))
    (λ x h. ap (λ y. y *ℤ c) (suc_ℤ-*ℤ x b) ∙ omega (arith, ints, add_mul (x *ℤ b) b c, suc_ℤ-*ℤ x (b *ℤ c)))
    (λ x h. ap (λ y. y *ℤ c) (pred_ℤ-*ℤ x b) ∙ omega (arith, ints, add_mul (x *ℤ b) (neg_ℤ b) c, neg_mul b c, pred_ℤ-*ℤ x (b *ℤ c)))
    a

pub one_mul : (a : ℤ) → pos 1 *ℤ a ≡ a
one_mul (pos n) = ap pos (nat.one-mul n)
one_mul (negsuc n) = ap (λ x. neg_ℤ (pos x)) (nat.one-mul (suc n))

pub whole_laws : RingLaws whole
whole_laws = record {
  add_assoc = +ℤ_assoc;
  add_comm = +ℤ_comm;
  add_zero = +ℤ_idr;
  add_neg = +ℤ_invr;
  mul_assoc = mul_assoc;
  mul_comm = *ℤ_comm;
  mul_one = λ a. *ℤ_comm a (pos 1) ∙ one_mul a;
  mul_add = mul_add;
}

pub whole_domain : Domain whole
whole_domain = record { one_not_zero = λ e. omega (arith, ap unsigned_abs e); mul_not_zero = mul_not_zero }
