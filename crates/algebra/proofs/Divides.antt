-- Divisibility in any commutative ring.
use Rattle.std.proofs.Common.{◌≡◌, [], ◌∷◌, sym, refl, ◌∙◌, ap₂}
use Rattle.algebra.specs.Ring.{Ring, RingLaws, sub, Divides}
use Rattle.algebra.proofs.Solver.{ring, ring_by, reify}

module _ {A : Type 0} {R : Ring A} (laws : RingLaws R) where
  -- two members with one remainder by b differ by a multiple of b
  pub one_remainder : (a c b p q r : A) → a ≡ R.add (R.mul p b) r → c ≡ R.add (R.mul q b) r → Divides R b (sub R a c)
  one_remainder a c b p q r e f = (sub R p q, ap₂ (sub R) e f ∙ ring laws (p ∷ q ∷ b ∷ r ∷ []) (search reify depth 20) refl)

  -- where two members differ by a multiple of b, so do their remainders by b
  pub remainders_differ : (a c b p q r s k : A) → a ≡ R.add (R.mul p b) r → c ≡ R.add (R.mul q b) s → sub R a c ≡ R.mul k b → sub R r s ≡ R.mul (R.add (sub R k p) q) b
  remainders_differ a c b p q r s k e f g = ring_by laws (p ∷ q ∷ b ∷ r ∷ s ∷ k ∷ []) R.one (sym (ap₂ (sub R) e f) ∙ g) (search reify depth 20) refl
