-- A matrix in a table of 32 columns, a text in a buffer, and what the reader and the writer leave.
--
--   stored    an integer as an element stores it, or what is wrong
--   placed    a table with the entries from number k on put in their places
--   members   the c integers that the entries of a table mean, from number k on
--   filled    a table with entries put in, or their refusal
--   loaded    what the reader answers of a matrix or a refusal, and the table afterwards
--   reading   what the reader answers, and the table afterwards: Short first, for a table under 1024 elements
--   Appends   bs was put at `at`, up to r, and what follows is as it was
--   refusal   why the writer refuses: Short of the buffer or the table first, then Sizes
--   Wrote     what the writer answers and leaves: the text and its length, or a refusal and the buffer as it was
use Rattle.std.specs.Prelude.{◌≡◌, ℕ, zero, suc, ◌+◌, ◌*◌, if◌then◌else◌, ◌&&◌, List, [], ◌∷◌, ◌++◌, length, take, drop, ℤ, pos, Some, None, Ok, Err, Option, Result, nat_le, slice_index_or, slice_set}
use Rattle.kinds.specs.declared.ElementFault.{ElementFault}
use Rattle.integers.specs.Meaning.{meaning}
use Rattle.integers.specs.declared.Integer.{Integer}
use Rattle.matrix_market.specs.declared.ReadFault.{ReadFault}
use Rattle.matrix_market.specs.declared.ReadFault.TheVariants as read
use Rattle.matrix_market.specs.declared.WriteFault.{WriteFault}
use Rattle.matrix_market.specs.declared.WriteFault.TheVariants.{Short, Sizes}
use Rattle.matrix_market.specs.Sizes.{in_bounds, place}
use Rattle.matrix_market.specs.Layout.{Bytes, Matrix, parse, text}

abbrev pub stored : Result ℤ (Option ElementFault) → Result Integer (Option ElementFault)
stored (Ok x) = Ok (record { value = x })
stored (Err e) = Err e

abbrev pub placed : ℕ → ℕ → List ℤ → List Integer → List Integer
placed m k [] t = t
placed m k (x ∷ xs) t = placed m (k + 1) xs (slice_set t (place m k) (record { value = x }))

abbrev pub members : ℕ → List Integer → ℕ → ℕ → List ℤ
members m t k zero = []
members m t k (suc c) = meaning (slice_index_or t (place m k) (record { value = pos 0 })) ∷ members m t (k + 1) c

abbrev pub filled : ℕ → ℕ → List Integer → Result (List ℤ) ReadFault → Result (List Integer) ReadFault
filled m k t (Ok xs) = Ok (placed m k xs t)
filled m k t (Err e) = Err e

abbrev pub loaded : Result Matrix ReadFault → List Integer → Result (ℕ × ℕ) ReadFault × List Integer
loaded (Ok x) t = (Ok (x.0, x.1), placed x.0 0 x.2 t)
loaded (Err e) t = (Err e, t)

abbrev pub reading : Bytes → List Integer → Result (ℕ × ℕ) ReadFault × List Integer
reading bs t = loaded (if nat_le 1024 (length t) then parse bs else Err read.Short) t

pub record Appends (at : ℕ) (bs was : Bytes) (r : ℕ) (is : Bytes) : Type 0 where
  pub end : r ≡ at + length bs
  pub front : take r is ≡ take at was ++ bs
  pub back : drop r is ≡ drop r was

abbrev pub refusal : ℕ → ℕ → List Integer → Bytes → Option WriteFault
refusal m n t out =
    if nat_le 12288 (length out) && nat_le 1024 (length t)
    then (if in_bounds m n then None else Some Sizes)
    else Some Short

abbrev pub Wrote : ℕ → ℕ → List Integer → Bytes → Result ℕ WriteFault → Bytes → Type 0
Wrote m n t was (Ok r) is = (refusal m n t was ≡ None) × Appends 0 (text m n (members m t 0 (m * n))) was r is
Wrote m n t was (Err e) is = (refusal m n t was ≡ Some e) × (is ≡ was)
