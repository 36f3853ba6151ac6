-- Looking through the rest of a worktable by rows and then columns.
use Rattle.std.proofs.Common.{◌-◌, MatchOption, ◌≡◌, ◌≢◌, ℕ, ◌+◌, ◌<◌, ◌≤◌, ◌⊎◌, List, length, get_or, Some, None, Option, sym, ap, ◌∙◌, subst, inl, inr, arith}
use Rattle.std.proofs.lemmas.Bool.{cases_lt}
use Rattle.std.proofs.lemmas.List.FromFn.{length-range_with_len, get_or-range_with_len}
use Rattle.std.specs.List.{AllWithin, HoldsAt, range_with_len}
use Rattle.kinds.specs.Laws.{SizeLaws}
use Rattle.kinds.specs.Model.{Model}
use Rattle.presentation.specs.declared.table.Axis.{Axis}
use Rattle.presentation.specs.Places.{place, meant}
use Rattle.presentation.specs.Rests.{In, Earlier, member, Pivotal, Better, Zeros, FirstNonzero}
use Rattle.presentation.specs.Shapes.{Shape, shape}

-- what the numbers of a presentation are, from how a contract sees it
pub numbers : {a b c : ℕ} {s : Shape} → shape a b c ≡ s → (a ≡ s.m) × (b ≡ s.n) × (c ≡ s.c)
numbers e = (ap (λ s. s.m) e, ap (λ s. s.n) e, ap (λ s. s.c) e)

-- P holds of every entry of the rest before (i, j)
abbrev pub Seen : Shape → ℕ → ℕ → (ℕ → ℕ → Type 0) → Type 0
Seen s i j P = (a b : ℕ) → In s a b → Earlier i j a b → P a b

pub seen_more : (s : Shape) (i j : ℕ) (P : ℕ → ℕ → Type 0) → Seen s i j P → P i j → Seen s i (j + 1) P
seen_more s i j P before here a b h (inl e) = before a b h (inl e)
seen_more s i j P before here a b h (inr e) = go (cases_lt b j)
  where
    go : (b < j) ⊎ (j ≤ b) → P a b
    go (inl l) = before a b h (inr (e.0, l))
    go (inr l) = let eb : j ≡ b = omega (arith, e.1) in subst (λ x. P x b) (sym e.0) (subst (λ y. P i y) eb here)

pub within : (s : Shape) (i j : ℕ) → s.c ≤ i → i < s.m → s.c ≤ j → j < s.n → In s i j
within s i j a b c d = record { row_from = a; row_below = b; column_from = c; column_below = d }

module _ {E S : Type 0} (m : Model E S) (s : Shape) (w : List E) where
  abbrev Zero : ℕ → ℕ → Type 0
  Zero a b = member m w a b ≡ m.ring.zero

  -- the least entry before (i, j), with its size: with none yet, all are zero
  abbrev pub SoFar : ℕ → ℕ → Option (ℕ × (ℕ × ℕ)) → Type 0
  SoFar i j None = Seen s i j Zero
  SoFar i j (Some p) = Pivotal m s w p.1.0 p.1.1

  positive : (size : ℕ) (least : Option (ℕ × (ℕ × ℕ))) → Better size least → 0 < size
  positive size None good = good
  positive size (Some least) good = good.0

  pub better : (laws : SizeLaws m) (i j size : ℕ) (least : Option (ℕ × (ℕ × ℕ))) → In s i j → size ≡ m.size (member m w i j) → Better size least → Pivotal m s w i j
  better laws i j size least inside e good = record { inside = inside; not_zero = λ z. omega (arith, positive size least good, e ∙ ap m.size z ∙ laws.size_zero) }

  pub no_better : (laws : SizeLaws m) (i j size : ℕ) (least : Option (ℕ × (ℕ × ℕ))) → size ≡ m.size (member m w i j) → ¬ (Better size least) → SoFar i j least → SoFar i (j + 1) least
  no_better laws i j size None e worse seen = seen_more s i j Zero seen (go (cases_lt 0 size))
    where
      go : (0 < size) ⊎ (size ≤ 0) → Zero i j
      go (inl l) = absurd (worse l)
      go (inr l) = laws.zero_size (member m w i j) (sym e ∙ omega (arith, l))
  no_better laws i j size (Some p) e worse found = found

-- what stands at the corner, as it was read, is not zero
pub corner_not_zero : {E S : Type 0} (m : Model E S) (s : Shape) (w : List E) (x : m.Member) (a b c : ℕ) → shape a b c ≡ s → x ≡ member m w c c → Pivotal m s w s.c s.c → x ≢ m.ring.zero
corner_not_zero m s w x a b c e r p z = p.not_zero (ap (λ c. member m w c c) (sym (numbers e).2) ∙ sym r ∙ z)

-- what looking for the first nonzero entry after the corner came to
module _ {E S : Type 0} (m : Model E S) (w : List E) (axis : Axis) (c len : ℕ) where
  abbrev After : List ℕ
  After = range_with_len (c + 1) (len - (c + 1))

  abbrev ZeroAt : ℕ → Type 0
  ZeroAt k = meant m w (place axis c k) ≡ m.ring.zero

  zero_before : (i k : ℕ) → i ≤ len - (c + 1) → AllWithin ZeroAt After 0 i → c < k → k < c + 1 + i → ZeroAt k
  zero_before i k l all a b =
      let at : get_or After (k - (c + 1)) 0 ≡ k = get_or-range_with_len (c + 1) (len - (c + 1)) (k - (c + 1)) 0 (omega arith) ∙ omega arith in
      subst ZeroAt at (all (k - (c + 1)) 0 (omega arith) (omega arith))

  pub first_nonzero_found : (r : Option ℕ)
      → MatchOption r (AllWithin ZeroAt After 0 (length After)) (λ x. ¬ (ZeroAt x) × (i : ℕ) × (i < length After) × HoldsAt (λ y. y ≡ x) After i × AllWithin ZeroAt After 0 i)
      → MatchOption r (Zeros m axis c len w) (λ k. FirstNonzero m axis c len w k)
  first_nonzero_found None all = λ k a b. zero_before (length After) k (omega (arith, length-range_with_len (c + 1) (len - (c + 1)))) all a (omega (arith, length-range_with_len (c + 1) (len - (c + 1))))
  first_nonzero_found (Some x) (not_zero, i, l, at, before) =
      let il : i < len - (c + 1) = omega (arith, l, length-range_with_len (c + 1) (len - (c + 1))) in
      let is : c + 1 + i ≡ x = sym (get_or-range_with_len (c + 1) (len - (c + 1)) i 0 il) ∙ at 0 in
      record { after = omega arith; below = omega arith; before = λ k a b. zero_before i k (omega arith) before a (omega arith); not_zero = not_zero }
