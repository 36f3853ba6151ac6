-- Writing rows and columns of a table, one entry after another.
use borrow.Rule.Slice.PartMut.{put_mid}
use Rattle.std.proofs.Common.{take, ◌-◌, ◌≡◌, ℕ, zero, suc, ◌+◌, ◌*◌, ◌<◌, ◌≤◌, ◌≢◌, ◌⊎◌, List, [], ◌∷◌, length, get_or, set, sym, refl, ap, ◌∙◌, inl, inr, le_of_suc-le-suc, not-suc-le-zero, arith, length-set, get_or-set_other, below_more}
use Rattle.std.proofs.lemmas.List.{get_or-take, length-take-le, places}
use Rattle.std.proofs.lemmas.Bool.{cases_lt}
use Rattle.kinds.specs.Model.{Model}
use Rattle.presentation.specs.declared.table.Axis.{Axis}
use Rattle.presentation.specs.declared.table.Axis.TheVariants.{Row, Column}
use Rattle.presentation.specs.Places.{place, meant, Written, Swapped, Identity, Grown}

-- entries of different numbers stand apart
pub place_apart : (axis : Axis) (a b k j : ℕ) → a < 32 → b < 32 → k < 32 → j < 32 → place axis a k ≡ place axis b j → k ≡ j
place_apart Row a b k j p q r s e = omega arith
place_apart Column a b k j p q r s e = omega arith

pub place_below : (axis : Axis) (i k : ℕ) → i < 32 → k < 32 → place axis i k < 1024
place_below Row i k p q = omega arith
place_below Column i k p q = omega arith

module _ {E : Type 0} where
  -- a row after a copy into its part of the table
  pub row_copied : (i : ℕ) (line old ys : List E) → 1024 ≤ length old → i < 32 → length line ≤ 32 → ys ≡ line
      → Written Row i (length line) line old (put_mid (32 * i) (32 * i + length line - 32 * i) old ys)
  row_copied i line old ys long il nl e = rw e record {
    entries = λ k d h. grind (arith, places);
    others = λ p d h. go p d h (cases_lt p (32 * i)) (cases_lt p (32 * i + length line));
  }
    where
      go : (p : ℕ) (d : E) → ((k : ℕ) → k < length line → p ≢ 32 * i + k) → (p < 32 * i) ⊎ (32 * i ≤ p) → (p < 32 * i + length line) ⊎ (32 * i + length line ≤ p)
          → get_or (put_mid (32 * i) (32 * i + length line - 32 * i) old line) p d ≡ get_or old p d
      go p d h (inl l) m = grind (arith, places)
      go p d h (inr l) (inl m) = absurd (h (p - 32 * i) (omega arith) (omega arith))
      go p d h (inr l) (inr m) = grind (arith, places)

  pub written_take : (axis : Axis) (i n : ℕ) (line old new : List E) → n ≤ length line → Written axis i (length (take n line)) (take n line) old new → Written axis i n line old new
  written_take axis i n line old new h w =
      let e = length-take-le n line h in record {
        entries = λ k d l. w.entries k d (omega (arith, e)) ∙ get_or-take n line k d l;
        others = λ p d g. w.others p d (λ k l. g k (omega (arith, e)));
      }

  pub swapped_none : (axis : Axis) (a b : ℕ) (old : List E) → Swapped axis a b 0 old old
  swapped_none axis a b old = record { first = λ k d h. absurd (omega arith); second = λ k d h. absurd (omega arith); others = λ p d h g. refl }

  -- what an exchange of two places leaves
  abbrev Exchanged : ℕ → ℕ → List E → List E → Type 0
  Exchanged p q t t' =
      ((d : E) → get_or t' p d ≡ get_or t q d) × ((d : E) → get_or t' q d ≡ get_or t p d)
      × ((k : ℕ) (d : E) → (k ≢ p) → (k ≢ q) → get_or t' k d ≡ get_or t k d)

  pub swapped_more : (axis : Axis) (a b k p q : ℕ) (old t t' : List E)
      → a < 32 → b < 32 → k < 32 → p ≡ place axis a k → q ≡ place axis b k → Exchanged p q t t'
      → Swapped axis a b k old t → Swapped axis a b (k + 1) old t'
  swapped_more axis a b k p q old t t' al bl kl ep eq x inv =
      let xp : Exchanged (place axis a k) (place axis b k) t t' = rw (← ep, ← eq) x in
      let apart : (i j : ℕ) → i < 32 → j < k → (l : ℕ) → l < 32 → place axis i j ≢ place axis l k = λ i j il h l ll e. omega (arith, place_apart axis i l j k il ll (omega arith) kl e) in
      let off : (i : ℕ) → i < 32 → (d : E) → get_or t (place axis i k) d ≡ get_or old (place axis i k) d = λ i il d. inv.others (place axis i k) d (λ j h e. apart a j al h i il (sym e)) (λ j h e. apart b j bl h i il (sym e)) in
      record {
        first = λ j d h. below_more (λ j. get_or t' (place axis a j) d ≡ get_or old (place axis b j) d) k
            (λ j l. xp.2 (place axis a j) d (apart a j al l a al) (apart a j al l b bl) ∙ inv.first j d l)
            (xp.0 d ∙ off b bl d) j h;
        second = λ j d h. below_more (λ j. get_or t' (place axis b j) d ≡ get_or old (place axis a j) d) k
            (λ j l. xp.2 (place axis b j) d (apart b j bl l a al) (apart b j bl l b bl) ∙ inv.second j d l)
            (xp.1 d ∙ off a al d) j h;
        others = λ p d h g. xp.2 p d (h k (omega arith)) (g k (omega arith)) ∙ inv.others p d (λ j l. h j (omega arith)) (λ j l. g j (omega arith));
      }

module _ {E S : Type 0} (m : Model E S) where
  pub meant_at : (xs : List E) (i : ℕ) (d : E) → i < length xs → m.mean (get_or xs i d) ≡ meant m xs i
  meant_at [] i d h = absurd (not-suc-le-zero h)
  meant_at (x ∷ xs) zero d h = refl
  meant_at (x ∷ xs) (suc i) d h = meant_at xs i d (le_of_suc-le-suc h)

  pub meant_read : (xs : List E) (i : ℕ) (x : E) → i < length xs → x ≡ get_or xs i x → m.mean x ≡ meant m xs i
  meant_read xs i x h e = ap m.mean e ∙ meant_at xs i x h

  -- a place that was kept means what it meant
  pub meant_kept : (old new : List E) (p : ℕ) → p < length old → length new ≡ length old → ((d : E) → get_or new p d ≡ get_or old p d) → meant m new p ≡ meant m old p
  meant_kept [] new p h e kept = absurd (not-suc-le-zero h)
  meant_kept (x ∷ xs) new p h e kept = sym (meant_at new p x (omega arith)) ∙ ap m.mean (kept x) ∙ meant_at (x ∷ xs) p x h

  pub meant_set_same : (xs : List E) (i : ℕ) (x : E) → i < length xs → meant m (set xs i x) i ≡ m.mean x
  meant_set_same [] i x h = absurd (not-suc-le-zero h)
  meant_set_same (y ∷ xs) zero x h = refl
  meant_set_same (y ∷ xs) (suc i) x h = meant_set_same xs i x (le_of_suc-le-suc h)

  pub meant_set_other : (xs : List E) (i j : ℕ) (x : E) → (j ≢ i) → meant m (set xs i x) j ≡ meant m xs j
  meant_set_other [] i j x h = refl
  meant_set_other (y ∷ xs) zero zero x h = absurd (h refl)
  meant_set_other (y ∷ xs) zero (suc j) x h = refl
  meant_set_other (y ∷ xs) (suc i) zero x h = refl
  meant_set_other (y ∷ xs) (suc i) (suc j) x h = meant_set_other xs i j x (λ e. h (ap suc e))

  -- the first k entries of row and column `size` are zero
  pub record Crossed (size k : ℕ) (old new : List E) : Type 0 where
    pub row : (j : ℕ) → j < k → meant m new (32 * size + j) ≡ m.ring.zero
    pub column : (j : ℕ) → j < k → meant m new (32 * j + size) ≡ m.ring.zero
    pub others : (p : ℕ) (d : E) → ((j : ℕ) → j < k → p ≢ 32 * size + j) → ((j : ℕ) → j < k → p ≢ 32 * j + size) → get_or new p d ≡ get_or old p d

  pub crossed_none : (size : ℕ) (old : List E) → Crossed size 0 old old
  crossed_none size old = record { row = λ j h. absurd (omega arith); column = λ j h. absurd (omega arith); others = λ p d h g. refl }

  pub crossed_more : (size k : ℕ) (old t : List E) (z : E) → size < 32 → k < size → 1024 ≤ length t → m.mean z ≡ m.ring.zero
      → Crossed size k old t → Crossed size (k + 1) old (set (set t (32 * size + k) z) (32 * k + size) z)
  crossed_more size k old t z sl kl tl ez inv =
      let a = 32 * size + k in
      let b = 32 * k + size in
      let t' = set t a z in
      record {
        row = λ j h. meant_set_other t' b (32 * size + j) z (λ e. omega arith) ∙ below_more (λ j. meant m t' (32 * size + j) ≡ m.ring.zero) k
            (λ j l. meant_set_other t a (32 * size + j) z (λ e. omega arith) ∙ inv.row j l)
            (meant_set_same t a z (omega arith) ∙ ez) j h;
        column = λ j h. below_more (λ j. meant m (set t' b z) (32 * j + size) ≡ m.ring.zero) k
            (λ j l. meant_set_other t' b (32 * j + size) z (λ e. omega arith) ∙ meant_set_other t a (32 * j + size) z (λ e. omega arith) ∙ inv.column j l)
            (meant_set_same t' b z (simp length-set (omega arith)) ∙ ez) j h;
        others = λ p d h g.
            let na : p ≢ a = h k (omega arith) in
            let nb : p ≢ b = g k (omega arith) in
            rw (get_or-set_other, get_or-set_other) (inv.others p d (λ j l. h j (omega arith)) (λ j l. g j (omega arith)));
      }

  pub grown : (size at : ℕ) (old t : List E) (one : E) → size < 32 → 1024 ≤ length t → at ≡ 33 * size → m.mean one ≡ m.ring.one
      → Crossed size size old t → Grown m size old (set t at one)
  grown size at old t one sl tl ea eo inv = record {
    row = λ j h. meant_set_other t at (32 * size + j) one (λ e. omega arith) ∙ inv.row j h;
    column = λ j h. meant_set_other t at (32 * j + size) one (λ e. omega arith) ∙ inv.column j h;
    corner = let e : at ≡ 32 * size + size = omega arith in rw (← e) (meant_set_same t at one (omega arith) ∙ eo);
    others = λ p d h g. let ne : p ≢ at = λ e. h size (omega arith) (omega arith) in rw get_or-set_other (inv.others p d (λ j l. h j (omega arith)) (λ j l. g j (omega arith)));
  }

  pub identity_more : (k : ℕ) (old t t' : List E) → k < 32 → 1024 ≤ length t → length t' ≡ length t
      → Grown m k t t' → Identity m k old t → Identity m (k + 1) old t'
  identity_more k old t t' kl tl el g inv = record { diagonal = diagonal; off = off; others = others }
    where
      -- the entries of the smaller square are as they were
      inner : (i j : ℕ) → i < k → j < k → meant m t' (32 * i + j) ≡ meant m t (32 * i + j)
      inner i j a b = meant_kept t t' (32 * i + j) (omega arith) el (λ d. g.others (32 * i + j) d (λ x h e. omega arith) (λ x h e. omega arith))

      diagonal : (i : ℕ) → i < k + 1 → meant m t' (32 * i + i) ≡ m.ring.one
      diagonal = below_more (λ i. meant m t' (32 * i + i) ≡ m.ring.one) k (λ i h. inner i i h h ∙ inv.diagonal i h) g.corner

      off : (i j : ℕ) → i < k + 1 → j < k + 1 → (i ≢ j) → meant m t' (32 * i + j) ≡ m.ring.zero
      off i j a b n = go (cases_lt i k) (cases_lt j k)
        where
          go : (i < k) ⊎ (k ≤ i) → (j < k) ⊎ (k ≤ j) → meant m t' (32 * i + j) ≡ m.ring.zero
          go (inl p) (inl q) = inner i j p q ∙ inv.off i j p q n
          go (inl p) (inr q) = let e : j ≡ k = omega arith in rw e (g.column i p)
          go (inr p) (inl q) = let e : i ≡ k = omega arith in rw e (g.row j q)
          go (inr p) (inr q) = absurd (n (omega arith))

      others : (p : ℕ) (d : E) → ((i j : ℕ) → i < k + 1 → j < k + 1 → p ≢ 32 * i + j) → get_or t' p d ≡ get_or old p d
      others p d h = g.others p d (λ x l. h k x (omega arith) (omega arith)) (λ x l. h x k (omega arith) (omega arith)) ∙ inv.others p d (λ i j a b. h i j (omega arith) (omega arith))
