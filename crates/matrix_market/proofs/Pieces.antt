-- One piece of text after another into a buffer.
use Rattle.std.proofs.Common.{◌≡◌, ℕ, zero, suc, ◌+◌, ◌-◌, ◌≤◌, List, [], ◌∷◌, ◌++◌, length, get_or, take, drop, ℤ, pos, negsuc, unsigned_abs, decimal, sym, refl, ap, ◌∙◌, arith, length-append}
use borrow.Rule.Slice.PartMut.{put_mid}
use Rattle.std.proofs.lemmas.Fmt.{length-decimal-le}
use Rattle.std.proofs.lemmas.List.{append_assoc, drop-drop}
use Rattle.std.proofs.lemmas.Slice.{take-put_mid, drop-put_mid}
use Rattle.std.specs.Fmt.{signed_decimal}
use Rattle.integers.specs.Meaning.{meaning}
use Rattle.integers.specs.declared.Integer.{Integer}
use Rattle.matrix_market.specs.Layout.{Bytes, column}
use Rattle.matrix_market.specs.Sizes.{place}
use Rattle.matrix_market.specs.Stored.{Appends, members}

pub appends_put : (at : ℕ) (bs out ys : Bytes) → ys ≡ bs → at + length bs ≤ length out → Appends at bs out (at + length bs) (put_mid at (at + length bs - at) out ys)
appends_put at bs out ys e l =
    record {
      end = refl;
      front = take-put_mid at _ out ys (at + length bs) (omega (arith, ap length e)) (omega arith) ∙ ap (λ t. take at out ++ t) e;
      back = drop-put_mid at _ out ys (at + length bs) (omega arith) (omega arith) (omega (arith, ap length e));
    }

pub appends_then : (at p q : ℕ) (a b x y z : Bytes) → Appends at a x p y → Appends p b y q z → Appends at (a ++ b) x q z
appends_then at p q a b x y z f g =
    record {
      end = rw length-append (omega (arith, f.end, g.end));
      front = g.front ∙ ap (λ t. t ++ b) f.front ∙ append_assoc (take at x) a b;
      back = g.back ∙ rest g.end;
    }
  where
    rest : q ≡ p + length b → drop q y ≡ drop q x
    rest e = rw e (sym (drop-drop (length b) p y) ∙ ap (drop (length b)) f.back ∙ drop-drop (length b) p x)

-- a size takes at most 2 digits
pub length_size : (n : ℕ) → n ≤ 32 → length (decimal n) ≤ 2
length_size n h = length-decimal-le 2 n (omega arith) (omega arith) (omega arith)

-- an integer in range takes at most 10 bytes
pub length_signed : (z : ℤ) → unsigned_abs z ≤ 536870911 → length (signed_decimal z) ≤ 10
length_signed (pos n) h = omega (arith, length-decimal-le 9 n (omega arith) (omega arith) (omega arith))
length_signed (negsuc n) h = omega (arith, length-decimal-le 9 (suc n) (omega arith) (omega arith) (omega arith))

-- one entry more
pub column_more : (m k c i p : ℕ) (t : List Integer) (x : ℤ) → i ≡ k + c → p ≡ place m i → x ≡ meaning (get_or t p (record { value = pos 0 })) → column (members m t k (suc c)) ≡ column (members m t k c) ++ (signed_decimal x ++ (10 ∷ []))
column_more m k zero i p t x e q f =
    let here : i ≡ k = omega arith in
    rw (f, q, here) refl
column_more m k (suc c) i p t x e q f =
    let y : ℤ = meaning (get_or t (place m k) (record { value = pos 0 })) in
    ap (λ s. signed_decimal y ++ (10 ∷ s)) (column_more m (k + 1) c i p t x (omega arith) q f)
    ∙ sym (append_assoc (signed_decimal y) (10 ∷ column (members m t (k + 1) c)) (signed_decimal x ++ (10 ∷ [])))
