-- The first line of a text, and the first field of a line.
use Rattle.std.proofs.Common.{sym, ◌≡◌, ◌≢◌, ℕ, zero, suc, ◌+◌, ◌-◌, ◌<◌, ◌≤◌, Bool, true, false, cond, not, eqb, [], ◌∷◌, length, get_or, take, drop, take_while, add-one, ap, ◌∙◌, refl, arith}
use Rattle.std.specs.List.{prefix_len}
use Rattle.std.proofs.lemmas.Bool.{ne_eqb}
use Rattle.std.proofs.lemmas.List.{take_rest, take_all, drop_all, length-drop, get_or-drop}
use Rattle.std.proofs.lemmas.List.Sums.{prefix_len_stops}
use Rattle.std.proofs.lemmas.List.Folds.{length-prefix_len}
use Rattle.matrix_market.specs.Layout.{Bytes, lines, onto, blank, ends, fields}

abbrev no_feed : ℕ → Bool
no_feed b = not (eqb b 10)

first_line : (s : Bytes) → 0 < length s → lines s ≡ take (prefix_len no_feed s) s ∷ lines (drop (suc (prefix_len no_feed s)) s)
first_line [] l = absurd (omega arith)
first_line (b ∷ []) l =
    elim (eqb b 10) as (λ v. cond v ([] ∷ []) (onto b []) ≡ take (cond (not v) 1 0) (b ∷ []) ∷ lines (drop (suc (cond (not v) 1 0)) (b ∷ [])))
    [ true ↦ refl | false ↦ refl ]
first_line (b ∷ (c ∷ s)) l =
    let n : ℕ = prefix_len no_feed (c ∷ s) in
    let more : 1 + n ≡ suc n = omega arith in
    elim (eqb b 10) as (λ v. cond v ([] ∷ lines (c ∷ s)) (onto b (lines (c ∷ s))) ≡ take (cond (not v) (1 + n) 0) (b ∷ (c ∷ s)) ∷ lines (drop (suc (cond (not v) (1 + n) 0)) (b ∷ (c ∷ s))))
    [ true ↦ refl | false ↦ rw more (ap (onto b) (first_line (c ∷ s) (omega arith))) ]

-- the first line feed, by its place
feed_after : (s : Bytes) (i : ℕ) → i < length s → get_or s i 0 ≡ 10 → ((k : ℕ) → k < i → get_or s k 0 ≢ 10) → i ≡ prefix_len no_feed s
feed_after [] i l here before = absurd (omega arith)
feed_after (b ∷ s) zero l here before = rw here refl
feed_after (b ∷ s) (suc i) l here before = rw (ne_eqb b 10 (before 0 (omega arith))) (omega (arith, feed_after s i (omega arith) here (λ k h. before (suc k) (omega arith))))

pub feed_at : (s : Bytes) (i : ℕ) → i < length s → get_or s i 0 ≡ 10 → ((k : ℕ) → k < i → get_or s k 0 ≢ 10) → i ≡ length (take_while no_feed s)
feed_at s i l here before = feed_after s i l here before ∙ sym (length-prefix_len no_feed s)

-- no line feed at any place
none_after : (s : Bytes) → ((k : ℕ) → k < length s → get_or s k 0 ≢ 10) → length s ≡ prefix_len no_feed s
none_after [] none = refl
none_after (b ∷ s) none = rw (ne_eqb b 10 (none 0 (omega arith))) (omega (arith, none_after s (λ k h. none (suc k) (omega arith))))

pub none_at : (s : Bytes) → ((k : ℕ) → k < length s → get_or s k 0 ≢ 10) → length s ≡ length (take_while no_feed s)
none_at s none = none_after s none ∙ sym (length-prefix_len no_feed s)

-- up to the first line feed
pub line_cut : (s : Bytes) (i : ℕ) → i ≡ length (take_while no_feed s) → i < length s → lines s ≡ take i s ∷ lines (take (length s - (i + 1)) (drop (i + 1) s))
line_cut s i e l = rw (take_rest, add-one, e, length-prefix_len) (first_line s (omega arith))

-- no line feed
pub line_whole : (s : Bytes) (i : ℕ) → i ≡ length (take_while no_feed s) → 0 < length s → length s ≤ i → lines s ≡ s ∷ []
line_whole s i e h l =
    let n : prefix_len no_feed s ≡ i = rw (e, length-prefix_len) refl in
    first_line s h ∙ rw (n, take_all i s l, drop_all (suc i) s (omega arith)) refl

-- blanks in front
skip_blanks : (s : Bytes) → fields s ≡ fields (drop (prefix_len blank s) s)
skip_blanks [] = refl
skip_blanks (b ∷ s) =
    let n : ℕ = prefix_len blank s in
    let more : 1 + n ≡ suc n = omega arith in
    elim (blank b) as (λ v. v ≡ blank b → cond v (fields s) (cond (ends s) ((b ∷ []) ∷ fields s) (onto b (fields s))) ≡ fields (drop (cond v (1 + n) 0) (b ∷ s)))
    [ true ↦ λ e. rw more (skip_blanks s) | false ↦ λ e. rw (← e) refl ] refl

-- a field ends at its first blank, or at the end
first_field : (b : ℕ) (s : Bytes) → blank b ≡ false → fields (b ∷ s) ≡ (b ∷ take (prefix_len (λ x. not (blank x)) s) s) ∷ fields (drop (prefix_len (λ x. not (blank x)) s) s)
first_field b [] e = rw e refl
first_field b (c ∷ s) e =
    let n : ℕ = prefix_len (λ x. not (blank x)) s in
    let more : 1 + n ≡ suc n = omega arith in
    rw e
    (elim (blank c) as (λ v. v ≡ blank c → cond v ((b ∷ []) ∷ fields (c ∷ s)) (onto b (fields (c ∷ s))) ≡ (b ∷ take (cond (not v) (1 + n) 0) (c ∷ s)) ∷ fields (drop (cond (not v) (1 + n) 0) (c ∷ s)))
    [ true ↦ λ q. refl | false ↦ λ q. rw more (ap (onto b) (first_field c s (sym q))) ] refl)

-- nothing but blanks
pub no_field : (s : Bytes) (i : ℕ) → i ≡ length (take_while blank s) → length s ≤ i → fields s ≡ []
no_field s i e l = skip_blanks s ∙ ap fields (drop_all (prefix_len blank s) s (rw (e, length-prefix_len) at l))

-- the first field after the blanks
pub field_cut : (s t : Bytes) (i j : ℕ) → i ≡ length (take_while blank s) → t ≡ drop i s → 0 < length t → j ≡ length (take_while (λ b. not (blank b)) t) → fields s ≡ take j t ∷ fields (drop j t)
field_cut s [] i j e f l q = absurd (omega arith)
field_cut s (b ∷ t) i j e f l q =
    let n : prefix_len blank s ≡ i = rw (e, length-prefix_len) refl in
    let inside : i < length s = omega (arith, ap length f, length-drop i s) in
    let at_i : i + 0 ≡ i = omega arith in
    let stop : blank (get_or s i 0) ≡ false = rw n at (prefix_len_stops blank s 0 (rw n inside)) in
    let here : blank b ≡ false = ap (λ x. blank (get_or x 0 0)) f ∙ ap blank (get_or-drop i s 0 0) ∙ rw at_i stop in
    let m : j ≡ suc (prefix_len (λ x. not (blank x)) t) = q ∙ length-prefix_len (λ x. not (blank x)) (b ∷ t) ∙ rw here (omega arith) in
    skip_blanks s ∙ ap (λ k. fields (drop k s)) n ∙ ap fields (sym f) ∙ first_field b t here ∙ rw m refl
