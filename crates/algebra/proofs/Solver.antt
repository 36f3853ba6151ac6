-- A solver for equations in any commutative ring, by reflection.
--
--   Term      a ring expression over numbered atoms
--   Form      its normal form: a sorted list of signed monomials, each a sorted list of atoms
--   normal    the normal form of an expression
--   Reads     an expression that a member is the value of, found by the rules `reify`
--   ring      an equation that holds in every commutative ring
--   ring_by   an equation that follows from another one
use Rattle.std.proofs.Common.{◌≡◌, ℕ, zero, suc, Bool, true, false, not, List, [], ◌∷◌, sym, refl, ap, ◌∙◌, ap₂}
use Rattle.algebra.specs.Ring.{Ring, RingLaws, sub}
use Rattle.algebra.proofs.Ring as ring-facts

infixl 60 ◌⊕◌
infixl 70 ◌⊗◌
pub data Term : Type 0 where
  atom : ℕ → Term
  nought : Term
  unity : Term
  ◌⊕◌ : Term → Term → Term
  ◌⊗◌ : Term → Term → Term
  ⊝ : Term → Term

pub data Form : Type 0 where
  none : Form
  more : Bool → List ℕ → Form → Form

pub data Order : Type 0 where
  before same after : Order

abbrev pub compare_atoms : ℕ → ℕ → Order
compare_atoms zero zero = same
compare_atoms zero (suc n) = before
compare_atoms (suc m) zero = after
compare_atoms (suc m) (suc n) = compare_atoms m n

abbrev pub and_then : Order → Order → Order
and_then before o = before
and_then same o = o
and_then after o = after

abbrev pub compare_monomials : List ℕ → List ℕ → Order
compare_monomials [] [] = same
compare_monomials [] (y ∷ ys) = before
compare_monomials (x ∷ xs) [] = after
compare_monomials (x ∷ xs) (y ∷ ys) = and_then (compare_atoms x y) (compare_monomials xs ys)

abbrev pub place_atom : Order → ℕ → ℕ → List ℕ → List ℕ → List ℕ
place_atom before x y ys rest = x ∷ y ∷ ys
place_atom same x y ys rest = x ∷ y ∷ ys
place_atom after x y ys rest = y ∷ rest

abbrev pub insert_atom : ℕ → List ℕ → List ℕ
insert_atom x [] = x ∷ []
insert_atom x (y ∷ ys) = place_atom (compare_atoms x y) x y ys (insert_atom x ys)

abbrev pub multiply_monomials : List ℕ → List ℕ → List ℕ
multiply_monomials [] ys = ys
multiply_monomials (x ∷ xs) ys = insert_atom x (multiply_monomials xs ys)

-- equal monomials of opposite signs cancel
abbrev pub meet : Bool → Bool → List ℕ → List ℕ → Form → Form
meet true true m m' p = more true m (more true m' p)
meet true false m m' p = p
meet false true m m' p = p
meet false false m m' p = more false m (more false m' p)

abbrev pub place_monomial : Order → Bool → List ℕ → Bool → List ℕ → Form → Form → Form
place_monomial before s m s' m' p rest = more s m (more s' m' p)
place_monomial same s m s' m' p rest = meet s s' m m' p
place_monomial after s m s' m' p rest = more s' m' rest

abbrev pub insert_monomial : Bool → List ℕ → Form → Form
insert_monomial s m none = more s m none
insert_monomial s m (more s' m' p) = place_monomial (compare_monomials m m') s m s' m' p (insert_monomial s m p)

abbrev pub add_forms : Form → Form → Form
add_forms none q = q
add_forms (more s m p) q = insert_monomial s m (add_forms p q)

abbrev pub negate_form : Form → Form
negate_form none = none
negate_form (more s m p) = more (not s) m (negate_form p)

abbrev pub join_signs : Bool → Bool → Bool
join_signs true s = s
join_signs false s = not s

abbrev pub scale_form : Bool → List ℕ → Form → Form
scale_form s m none = none
scale_form s m (more s' m' p) = insert_monomial (join_signs s s') (multiply_monomials m m') (scale_form s m p)

abbrev pub multiply_forms : Form → Form → Form
multiply_forms none q = none
multiply_forms (more s m p) q = add_forms (scale_form s m q) (multiply_forms p q)

abbrev pub normal : Term → Form
normal (atom n) = more true (n ∷ []) none
normal nought = none
normal unity = more true [] none
normal (d ⊕ e) = add_forms (normal d) (normal e)
normal (d ⊗ e) = multiply_forms (normal d) (normal e)
normal (⊝ e) = negate_form (normal e)

same_atoms : (m n : ℕ) → compare_atoms m n ≡ same → m ≡ n
same_atoms zero zero e = refl
same_atoms zero (suc n) e = cc
same_atoms (suc m) zero e = cc
same_atoms (suc m) (suc n) e = ap suc (same_atoms m n e)

same_monomials : (xs ys : List ℕ) → compare_monomials xs ys ≡ same → xs ≡ ys
same_monomials [] [] e = refl
same_monomials [] (y ∷ ys) e = cc
same_monomials (x ∷ xs) [] e = cc
same_monomials (x ∷ xs) (y ∷ ys) e = go (same_monomials xs ys) (compare_atoms x y) refl e
  where
    go : (compare_monomials xs ys ≡ same → xs ≡ ys) → (o : Order) → compare_atoms x y ≡ o → and_then o (compare_monomials xs ys) ≡ same → (x ∷ xs) ≡ (y ∷ ys)
    go ih before f h = cc
    go ih same f h = ap₂ (λ a b. a ∷ b) (same_atoms x y f) (ih h)
    go ih after f h = cc

module _ {A : Type 0} (R : Ring A) where
  -- the atoms' values, and zero past the last
  abbrev pub look : List A → ℕ → A
  look [] n = R.zero
  look (x ∷ xs) zero = x
  look (x ∷ xs) (suc n) = look xs n

  abbrev pub value : List A → Term → A
  value env (atom n) = look env n
  value env nought = R.zero
  value env unity = R.one
  value env (d ⊕ e) = R.add (value env d) (value env e)
  value env (d ⊗ e) = R.mul (value env d) (value env e)
  value env (⊝ e) = R.neg (value env e)

module _ {A : Type 0} {R : Ring A} (laws : RingLaws R) (env : List A) where
  infixl 60 ◌⊞◌
  infixl 70 ◌⊡◌
  open R use {zero as O#, one as I#, add as ◌⊞◌, mul as ◌⊡◌, neg as neg#}
  open laws use {add_assoc, add_zero, mul_assoc, mul_one, mul_add}

  abbrev monomial : List ℕ → A
  monomial [] = I#
  monomial (x ∷ xs) = look R env x ⊡ monomial xs

  abbrev signed : Bool → A → A
  signed true x = x
  signed false x = neg# x

  abbrev form : Form → A
  form none = O#
  form (more s m p) = signed s (monomial m) ⊞ form p

  insert_atom_is : (x : ℕ) (ys : List ℕ) → monomial (insert_atom x ys) ≡ look R env x ⊡ monomial ys
  insert_atom_is x [] = refl
  insert_atom_is x (y ∷ ys) = go (compare_atoms x y) (insert_atom_is x ys)
    where
      go : (o : Order) → monomial (insert_atom x ys) ≡ look R env x ⊡ monomial ys → monomial (place_atom o x y ys (insert_atom x ys)) ≡ look R env x ⊡ (look R env y ⊡ monomial ys)
      go before ih = refl
      go same ih = refl
      go after ih = ap (λ t. look R env y ⊡ t) ih ∙ ring-facts.mul_left_comm laws (look R env y) (look R env x) (monomial ys)

  multiply_monomials_is : (xs ys : List ℕ) → monomial (multiply_monomials xs ys) ≡ monomial xs ⊡ monomial ys
  multiply_monomials_is [] ys = sym (ring-facts.one_mul laws (monomial ys))
  multiply_monomials_is (x ∷ xs) ys =
      insert_atom_is x (multiply_monomials xs ys)
      ∙ ap (λ t. look R env x ⊡ t) (multiply_monomials_is xs ys)
      ∙ sym (mul_assoc (look R env x) (monomial xs) (monomial ys))

  meet_is : (s s' : Bool) (m m' : List ℕ) (p : Form) → m ≡ m' → form (meet s s' m m' p) ≡ signed s (monomial m) ⊞ (signed s' (monomial m') ⊞ form p)
  meet_is true true m m' p e = refl
  meet_is true false m m' p e = sym (rw (← e) (ring-facts.add_left_comm laws (monomial m) (neg# (monomial m)) (form p) ∙ ring-facts.neg_add_cancel laws (monomial m) (form p)))
  meet_is false true m m' p e = sym (rw (← e) (ring-facts.neg_add_cancel laws (monomial m) (form p)))
  meet_is false false m m' p e = refl

  insert_monomial_is : (s : Bool) (m : List ℕ) (p : Form) → form (insert_monomial s m p) ≡ signed s (monomial m) ⊞ form p
  insert_monomial_is s m none = refl
  insert_monomial_is s m (more s' m' p) = go (compare_monomials m m') refl (insert_monomial_is s m p)
    where
      go : (o : Order) → compare_monomials m m' ≡ o → form (insert_monomial s m p) ≡ signed s (monomial m) ⊞ form p → form (place_monomial o s m s' m' p (insert_monomial s m p)) ≡ signed s (monomial m) ⊞ (signed s' (monomial m') ⊞ form p)
      go before e ih = refl
      go same e ih = meet_is s s' m m' p (same_monomials m m' e)
      go after e ih = ap (λ t. signed s' (monomial m') ⊞ t) ih ∙ ring-facts.add_left_comm laws (signed s' (monomial m')) (signed s (monomial m)) (form p)

  add_forms_is : (p q : Form) → form (add_forms p q) ≡ form p ⊞ form q
  add_forms_is none q = sym (ring-facts.zero_add laws (form q))
  add_forms_is (more s m p) q = insert_monomial_is s m (add_forms p q) ∙ ap (λ t. signed s (monomial m) ⊞ t) (add_forms_is p q) ∙ sym (add_assoc (signed s (monomial m)) (form p) (form q))

  signed_not : (s : Bool) (x : A) → signed (not s) x ≡ neg# (signed s x)
  signed_not true x = refl
  signed_not false x = sym (ring-facts.neg_neg laws x)

  negate_form_is : (p : Form) → form (negate_form p) ≡ neg# (form p)
  negate_form_is none = sym (ring-facts.neg_zero laws)
  negate_form_is (more s m p) = ap₂ ◌⊞◌ (signed_not s (monomial m)) (negate_form_is p) ∙ sym (ring-facts.neg_add laws (signed s (monomial m)) (form p))

  join_signs_is : (s s' : Bool) (x y : A) → signed (join_signs s s') (x ⊡ y) ≡ signed s x ⊡ signed s' y
  join_signs_is true true x y = refl
  join_signs_is true false x y = sym (ring-facts.mul_neg laws x y)
  join_signs_is false true x y = sym (ring-facts.neg_mul laws x y)
  join_signs_is false false x y = sym (ring-facts.mul_neg laws (neg# x) y ∙ ap neg# (ring-facts.neg_mul laws x y) ∙ ring-facts.neg_neg laws (x ⊡ y))

  scale_form_is : (s : Bool) (m : List ℕ) (p : Form) → form (scale_form s m p) ≡ signed s (monomial m) ⊡ form p
  scale_form_is s m none = sym (ring-facts.mul_zero laws (signed s (monomial m)))
  scale_form_is s m (more s' m' p) =
      insert_monomial_is (join_signs s s') (multiply_monomials m m') (scale_form s m p)
      ∙ ap₂ ◌⊞◌ (ap (signed (join_signs s s')) (multiply_monomials_is m m') ∙ join_signs_is s s' (monomial m) (monomial m')) (scale_form_is s m p)
      ∙ sym (mul_add (signed s (monomial m)) (signed s' (monomial m')) (form p))

  multiply_forms_is : (p q : Form) → form (multiply_forms p q) ≡ form p ⊡ form q
  multiply_forms_is none q = sym (ring-facts.zero_mul laws (form q))
  multiply_forms_is (more s m p) q =
      add_forms_is (scale_form s m q) (multiply_forms p q)
      ∙ ap₂ ◌⊞◌ (scale_form_is s m q) (multiply_forms_is p q)
      ∙ sym (ring-facts.add_mul laws (signed s (monomial m)) (form p) (form q))

  -- an expression has the value of its normal form
  pub normal_is : (e : Term) → form (normal e) ≡ value R env e
  normal_is (atom n) = add_zero (look R env n ⊡ I#) ∙ mul_one (look R env n)
  normal_is nought = refl
  normal_is unity = add_zero I#
  normal_is (d ⊕ e) = add_forms_is (normal d) (normal e) ∙ ap₂ ◌⊞◌ (normal_is d) (normal_is e)
  normal_is (d ⊗ e) = multiply_forms_is (normal d) (normal e) ∙ ap₂ ◌⊡◌ (normal_is d) (normal_is e)
  normal_is (⊝ e) = negate_form_is (normal e) ∙ ap neg# (normal_is e)

  pub vanishes : (e : Term) → normal e ≡ none → value R env e ≡ O#
  vanishes e h = sym (normal_is e) ∙ ap form h

-- The number of an atom.
pub record Atom {A : Type 0} (R : Ring A) (env : List A) (x : A) : Type 0 where
  pub index : ℕ
  pub is : look R env index ≡ x

pub record Reads {A : Type 0} (R : Ring A) (env : List A) (x : A) : Type 0 where
  pub term : Term
  pub is : value R env term ≡ x

module _ {A : Type 0} {R : Ring A} where
  abbrev pub atom_here : {x : A} {xs : List A} → Atom R (x ∷ xs) x
  atom_here = record { index = 0; is = refl }

  abbrev pub atom_later : {x y : A} {xs : List A} → Atom R xs x → Atom R (y ∷ xs) x
  atom_later p = record { index = suc p.index; is = p.is }

  abbrev pub reads_atom : {x : A} {env : List A} → Atom R env x → Reads R env x
  reads_atom p = record { term = atom p.index; is = p.is }

  abbrev pub reads_zero : {env : List A} → Reads R env R.zero
  reads_zero = record { term = nought; is = refl }

  abbrev pub reads_one : {env : List A} → Reads R env R.one
  reads_one = record { term = unity; is = refl }

  abbrev pub reads_add : {x y : A} {env : List A} → Reads R env x → Reads R env y → Reads R env (R.add x y)
  reads_add p q = record { term = p.term ⊕ q.term; is = ap₂ R.add p.is q.is }

  abbrev pub reads_mul : {x y : A} {env : List A} → Reads R env x → Reads R env y → Reads R env (R.mul x y)
  reads_mul p q = record { term = p.term ⊗ q.term; is = ap₂ R.mul p.is q.is }

  abbrev pub reads_neg : {x : A} {env : List A} → Reads R env x → Reads R env (R.neg x)
  reads_neg p = record { term = ⊝ p.term; is = ap R.neg p.is }

pub ruleset reify = (atom_here, atom_later, reads_atom, reads_zero, reads_one, reads_mul, reads_add, reads_neg)

module _ {A : Type 0} {R : Ring A} (laws : RingLaws R) where
  -- x ≡ y in every commutative ring: `ring laws (a ∷ b ∷ []) (search reify depth 20) refl`, with the atoms of x and y listed.
  pub ring : (env : List A) {x y : A} (p : Reads R env (sub R x y)) → normal p.term ≡ none → x ≡ y
  ring env {x} {y} p h = ring-facts.sub_zero laws x y (sym p.is ∙ vanishes laws env p.term h)

  -- x ≡ y from u ≡ v, where x - y is k * (u - v).
  pub ring_by : (env : List A) (k : A) {u v x y : A} → u ≡ v → (p : Reads R env (sub R (sub R x y) (R.mul k (sub R u v)))) → normal p.term ≡ none → x ≡ y
  ring_by env k {u} {v} {x} {y} e p h =
      ring-facts.sub_zero laws x y
      (ring-facts.sub_zero laws (sub R x y) (R.mul k (sub R u v)) (sym p.is ∙ vanishes laws env p.term h)
      ∙ ap (λ t. R.mul k t) (ring-facts.sub_self laws u v e) ∙ ring-facts.mul_zero laws k)

  -- used so: a sum of products of six atoms
  example : (a b c d e f : A) → R.mul (R.add a b) (R.mul c (R.add d (R.mul e f))) ≡ R.add (R.mul (R.mul d c) (R.add b a)) (R.mul (R.mul c f) (R.mul (R.add a b) e))
  example a b c d e f = ring (a ∷ b ∷ c ∷ d ∷ e ∷ f ∷ []) (search reify depth 20) refl
