-- The new entries of a line, looked at and written one after another.
use Rattle.std.proofs.Common.{◌≡◌, ℕ, ◌+◌, ◌<◌, ◌≤◌, ◌≢◌, List, length, set, Ok, Err, Result, MatchResult, refl, ◌∙◌, subst, arith, get_or-set_other, below_more}
use Rattle.std.proofs.lemmas.Result.{err_from_is_err_and}
use Rattle.std.specs.Result.{IsErrAnd}
use Rattle.kinds.specs.declared.ElementFault.{ElementFault}
use Rattle.kinds.specs.declared.ElementFault.TheVariants.{Range}
use Rattle.kinds.specs.Laws.{RangeLaws}
use Rattle.kinds.specs.Model.{Model}
use Rattle.presentation.specs.declared.fault.Table.{Table}
use Rattle.presentation.specs.declared.fault.TableFault.{TableFault}
use Rattle.presentation.specs.declared.table.Axis.{Axis}
use Rattle.presentation.specs.declared.operation.Update.{Update}
use Rattle.presentation.specs.Places.{place, fault_at, meant}
use Rattle.presentation.specs.Operations.{NewEntry, new_entry, FitUpdate, UnfitUpdate, Changed}
use Rattle.presentation.proofs.Tables.{place_apart, place_below, meant_kept, meant_set_same, meant_set_other}

module _ {E S : Type 0} (m : Model E S) where
  pub fit_more : (u : Update E) (axis : Axis) (t : List E) (k : ℕ) (z : E) → RangeLaws m
      → m.mean z ≡ new_entry m u axis t k → FitUpdate m u axis k t → FitUpdate m u axis (k + 1) t
  fit_more u axis t k z laws ez inv = below_more (λ j. m.Fits (new_entry m u axis t j)) k inv (subst m.Fits ez (laws.mean_fits z))

  -- an element's answer with its fault placed: the member that it means, or the fault `f` of one that does not fit
  abbrev pub NewAt : TableFault → m.Member → Result E TableFault → Type 0
  NewAt f a (Ok z) = m.mean z ≡ a
  NewAt f a (Err e) = (e ≡ f) × ¬ (m.Fits a)

  pub new_at : (at : ElementFault → TableFault) (a : m.Member) (r : Result E ElementFault) (r' : Result E TableFault)
      → NewEntry m a r → MatchResult r (λ x. r' ≡ Ok x) (λ e. IsErrAnd r' (λ f. f ≡ at e)) → NewAt (at Range) a r'
  new_at at a (Ok z) r' h e = rw e h
  new_at at a (Err f) r' h e = let p = err_from_is_err_and r' e in rw (p.1, p.2, h.0) (refl, h.1)

  pub unfit : (u : Update E) (table : Table) (axis : Axis) (t : List E) (len k : ℕ) (f : TableFault)
      → k < len → (f ≡ fault_at axis table u.to k Range) × ¬ (m.Fits (new_entry m u axis t k)) → FitUpdate m u axis k t → UnfitUpdate m u table axis len t f
  unfit u table axis t len k f kl no-fit inv = record { at = k; inside = kl; is = no-fit.0; here = no-fit.1; before = inv }

  -- the entries numbered k are still as they were
  still : (u : Update E) (axis : Axis) (k i : ℕ) (old t : List E) → u.to < 32 → i < 32 → k < 32 → 1024 ≤ length t → length t ≡ length old
      → Changed m u axis k old t → meant m t (place axis i k) ≡ meant m old (place axis i k)
  still u axis k i old t tl il kl long el inv =
      let b = place_below axis i k il kl in
      meant_kept m old t (place axis i k) (omega arith) el (λ d. inv.others (place axis i k) d (λ j h e. omega (arith, place_apart axis i u.to k j il tl kl (omega arith) e)))

  pub entry_still : (u : Update E) (axis : Axis) (k : ℕ) (old t : List E) → u.to < 32 → u.from < 32 → k < 32 → 1024 ≤ length t → length t ≡ length old
      → Changed m u axis k old t → new_entry m u axis t k ≡ new_entry m u axis old k
  entry_still u axis k old t tl fl kl long el inv = rw (still u axis k u.to old t tl tl kl long el inv, still u axis k u.from old t tl fl kl long el inv)

  pub changed_more : (u : Update E) (axis : Axis) (k at : ℕ) (old t : List E) (z : E) → u.to < 32 → k < 32 → 1024 ≤ length t
      → at ≡ place axis u.to k → m.mean z ≡ new_entry m u axis old k → Changed m u axis k old t → Changed m u axis (k + 1) old (set t at z)
  changed_more u axis k at old t z tl kl long ea ez inv = rw ea record {
    entries = below_more (λ j. meant m (set t (place axis u.to k) z) (place axis u.to j) ≡ new_entry m u axis old j) k
        (λ j h. meant_set_other m t _ _ z (λ e. omega (arith, place_apart axis u.to u.to j k tl tl (omega arith) kl e)) ∙ inv.entries j h)
        (let b = place_below axis u.to k tl kl in meant_set_same m t _ z (omega arith) ∙ ez);
    others = λ p d h. let ne : p ≢ place axis u.to k = h k (omega arith) in rw get_or-set_other (inv.others p d (λ j l. h j (omega arith)));
  }
