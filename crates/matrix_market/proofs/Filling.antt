-- The entries, one after another into a table.
use Rattle.std.proofs.Common.{◌≡◌, ℕ, suc, ◌+◌, ◌-◌, ◌<◌, List, set, ℤ, Ok, Err, Result, refl, arith}
use Rattle.integers.specs.declared.Integer.{Integer}
use Rattle.matrix_market.specs.declared.ReadFault.{ReadFault}
use Rattle.matrix_market.specs.Layout.{before}
use Rattle.matrix_market.specs.Sizes.{place}
use Rattle.matrix_market.specs.Stored.{filled}

-- the next line gives no entry
pub fill_refused : (m k n : ℕ) (t : List Integer) (r : ℕ → Result (List ℤ) ReadFault) (e : ReadFault) → k < n → ((c : ℕ) → r (suc c) ≡ Err e) → filled m k t (r (n - k)) ≡ Err e
fill_refused m k n t r e l q =
    let more : n - k ≡ suc (n - (k + 1)) = omega arith in
    rw (more, q (n - (k + 1))) refl

first : (m k : ℕ) (t : List Integer) (x : ℤ) (r : Result (List ℤ) ReadFault) → filled m k t (before (Ok x) r) ≡ filled m (k + 1) (set t (place m k) (record { value = x })) r
first m k t x (Ok xs) = refl
first m k t x (Err e) = refl

-- the next line gives the entry x
pub fill_step : (m k n p : ℕ) (t : List Integer) (x : Integer) (r s : ℕ → Result (List ℤ) ReadFault) → k < n → ((c : ℕ) → r (suc c) ≡ before (Ok x.value) (s c)) → p ≡ place m k → filled m k t (r (n - k)) ≡ filled m (k + 1) (set t p x) (s (n - (k + 1)))
fill_step m k n p t x r s l q e =
    let more : n - k ≡ suc (n - (k + 1)) = omega arith in
    rw (more, q (n - (k + 1)), e) (first m k t x.value (s (n - (k + 1))))
