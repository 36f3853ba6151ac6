-- The product of a row and a table, one entry after another.
use Rattle.std.proofs.Common.{Bool, true, false, [], ◌∷◌, take, replicate, refl, Decides, ◌≡◌, ℕ, zero, suc, ◌+◌, ◌*◌, ◌<◌, ◌≤◌, ◌≢◌, List, length, get_or, set, sym, ap, ◌∙◌, subst, ap₂, arith, get_or-set_other, get_or-set_same, below_more}
use Rattle.std.proofs.lemmas.List.{get_or-replicate, length-take-le}
use Rattle.std.specs.Bool.{MatchBool}
use Rattle.std.specs.List.{AllWithin, HoldsAt}
use Rattle.algebra.specs.Ring.{RingLaws}
use Rattle.algebra.proofs.Ring.{zero_mul}
use Rattle.algebra.proofs.Sum.{sum_more, sum_same, sum_zero}
use Rattle.kinds.specs.declared.ElementFault.TheVariants.{Range}
use Rattle.kinds.specs.Laws.{RangeLaws}
use Rattle.kinds.specs.Model.{Model}
use Rattle.presentation.specs.declared.fault.Table.TheVariants.{Work}
use Rattle.presentation.specs.declared.fault.TableFault.{TableFault}
use Rattle.presentation.specs.declared.table.Axis.TheVariants.{Row}
use Rattle.presentation.specs.Places.{fault_at, meant, Written}
use Rattle.presentation.specs.Rests.{member}
use Rattle.presentation.specs.Products.{dot, ZeroRow, Sums, Put, UnfitSum}
use Rattle.presentation.proofs.Tables.{meant_at, meant_read}

module _ {E S : Type 0} (m : Model E S) where
  pub dot_more : (k j : ℕ) (row t : List E) (x : E) (y s : m.Member) → k < length row → x ≡ get_or row k x → y ≡ member m t k j → s ≡ dot m k row t j
      → m.ring.add s (m.ring.mul (m.mean x) y) ≡ dot m (k + 1) row t j
  dot_more k j row t x y s h rx ey es =
      ap₂ m.ring.add es (ap₂ m.ring.mul (meant_read m row k x h rx) ey) ∙ sym (sum_more m.ring k (λ k. m.ring.mul (meant m row k) (member m t k j)))

  -- what looking at each element of a row came to
  pub zero_row_all : (row : List E) (r : Bool)
      → MatchBool r (AllWithin (λ x. m.mean x ≡ m.ring.zero) row 0 (length row)) ((k : ℕ) × (k < length row) × HoldsAt (λ x. m.mean x ≢ m.ring.zero) row k)
      → Decides r (ZeroRow m (length row) row)
  zero_row_all [] true all = (λ _ k l. absurd (omega arith), λ _. refl)
  zero_row_all [] false (k, l, other) = absurd (omega (arith, l))
  zero_row_all (x ∷ xs) true all = (λ _ k l. sym (meant_at m (x ∷ xs) k x l) ∙ all k x (omega arith) l, λ _. refl)
  zero_row_all (x ∷ xs) false (k, l, other) = (λ e. absurd (cc), λ z. absurd (other x (meant_at m (x ∷ xs) k x l ∙ z k l)))

  pub dot_zero : (laws : RingLaws m.ring) (n j : ℕ) (row t : List E) → ZeroRow m n row → dot m n row t j ≡ m.ring.zero
  dot_zero laws n j row t z = sum_zero laws n (λ k h. ap (λ x. m.ring.mul x (member m t k j)) (z k h) ∙ zero_mul laws (member m t k j))

  pub unfit_sum : (laws : RangeLaws m) (n i k : ℕ) (row t line : List E) (d : E) (f : TableFault)
      → k < n → (f ≡ fault_at Row Work i k Range) × ¬ (m.Fits (dot m n row t k)) → Sums m n row t k line → UnfitSum m n row t i f
  unfit_sum laws n i k row t line d f h (ef, no-fit) inv = record {
    at = k;
    inside = h;
    is = ef;
    here = no-fit;
    before = λ j l. subst m.Fits (inv j d l) (laws.mean_fits (get_or line j d));
  }

  -- a line of zeros holds the product of a row of zeros
  pub zero_sums : (laws : RingLaws m.ring) (n : ℕ) (row t : List E) (z : E) → n ≤ 32 → m.mean z ≡ m.ring.zero → ZeroRow m n row → Sums m n row t n (replicate 32 z)
  zero_sums laws n row t z nl ez zeros j d l = ap m.mean (get_or-replicate 32 j z d (omega arith)) ∙ ez ∙ sym (dot_zero laws n j row t zeros)

  pub sums_more : (n k : ℕ) (row t line : List E) (x : E) → k < length line → m.mean x ≡ dot m n row t k → Sums m n row t k line → Sums m n row t (k + 1) (set line k x)
  sums_more n k row t line x h ex inv j d l =
      below_more (λ j. m.mean (get_or (set line k x) j d) ≡ dot m n row t j) k
      (λ j b. let ne : j ≢ k = omega arith in rw get_or-set_other (inv j d b))
      (rw get_or-set_same ex) j l

  pub written_put : (n i : ℕ) (row t line old new : List E) (d : E) → i < 32 → n ≤ 32 → 1024 ≤ length new → Sums m n row t n line → Written Row i n line old new → Put m n row t i old new
  written_put n i row t line old new d il nl long s w = record {
    row_is = λ j h. sym (meant_at m new (32 * i + j) d (omega arith)) ∙ ap m.mean (w.entries j d h) ∙ s j d h;
    others = w.others;
  }

  meant_take : (n k : ℕ) (row : List E) → k < n → meant m (take n row) k ≡ meant m row k
  meant_take zero k row l = absurd (omega arith)
  meant_take (suc n) k [] l = refl
  meant_take (suc n) zero (x ∷ xs) l = refl
  meant_take (suc n) (suc k) (x ∷ xs) l = meant_take n k xs (omega arith)

  -- the first n elements of a row make the same product as the row cut there
  dot_take : (n j : ℕ) (row t : List E) → n ≤ length row → dot m (length (take n row)) (take n row) t j ≡ dot m n row t j
  dot_take n j row t h = rw (length-take-le n row h) (sum_same m.ring n (λ k l. ap (λ x. m.ring.mul x (member m t k j)) (meant_take n k row l)))

  pub put_take : (n i : ℕ) (row t old new : List E) → n ≤ length row → Put m (length (take n row)) (take n row) t i old new → Put m n row t i old new
  put_take n i row t old new h p =
      let e = length-take-le n row h in record {
        row_is = λ j l. p.row_is j (omega (arith, e)) ∙ dot_take n j row t h;
        others = λ q d g. p.others q d (λ j l. g j (omega (arith, e)));
      }

  pub unfit_take : (n i : ℕ) (row t : List E) (f : TableFault) → n ≤ length row → UnfitSum m (length (take n row)) (take n row) t i f → UnfitSum m n row t i f
  unfit_take n i row t f h u =
      let e = length-take-le n row h in record {
        at = u.at;
        inside = omega (arith, u.inside, e);
        is = u.is;
        here = λ fits. u.here (subst m.Fits (sym (dot_take n u.at row t h)) fits);
        before = λ j l. subst m.Fits (dot_take n j row t h) (u.before j l);
      }
