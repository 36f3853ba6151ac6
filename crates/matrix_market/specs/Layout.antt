-- The layout of a Matrix Market file in array form, over the integers: what some bytes read as, and the bytes
-- that are written.
--
--   Bytes           a text, byte by byte
--   onto            a byte in front of the first of some pieces
--   lines           the lines of a text: one ends at a line feed or at the end, and a line feed at the end begins no
--                   other
--   blank           space, tab and carriage return
--   ends            a field ends here: at a blank or at the end of the line
--   fields          the runs of bytes of a line that are no blanks
--   number          the number that digits write, after digits that wrote n
--   digits          the number that 1 to k digits write
--   in_range        an integer, or Range where its magnitude is above 536870911
--   ranged          the integer of a sign and a magnitude, in range
--   integer         the integer that a field writes: an optional minus, and 1 to 18 digits
--   named           the fields are these words, in any letter case
--   kind            the words of the header: matrix array integer general
--   banner          the first field of the header
--   is_header_line  the first line: the banner, then the kind
--   is_comment_line a line that begins with a percent sign
--   shape           both sizes, where they are in bounds
--   sizes           the sizes that the fields of a size line give
--   entry           the entry that the fields of a line give, or what is wrong with it
--   inner           an entry, or the refusal of line `at` with what is wrong
--   before          one entry in front of others, or the first refusal
--   entries         k entries from line `at` on, one to a line, and nothing after them
--   Matrix          the rows, the columns, and the entries column by column
--   shaped          a matrix of entries, or their refusal
--   sized           the matrix that a size line at `at` and the lines after it give
--   body            what the lines from `at` on give: comments, the size line, the entries
--   headed          what all the lines give
--   parse           what a text reads as; one of more than 65536 bytes is refused
--   column          integers written one to a line
--   opening         the first two lines that are written
--   text            what is written of a matrix
use Rattle.std.specs.Prelude.{ℕ, zero, suc, ◌+◌, ◌-◌, ◌*◌, Bool, true, false, if◌then◌else◌, ◌&&◌, ◌||◌, List, [], ◌∷◌, ◌++◌, map, length, take, drop, ℤ, pos, neg_ℤ, unsigned_abs, Some, None, Ok, Err, codes, decimal, Option, Result, ◌==◌, nat_le}
use Rattle.std.specs.Char.{to_ascii_lowercase, is_ascii_digit}
use Rattle.std.specs.Str.{bytes_eq}
use Rattle.std.specs.Fmt.{signed_decimal}
use Rattle.kinds.specs.declared.ElementFault.{ElementFault}
use Rattle.kinds.specs.declared.ElementFault.TheVariants.{Range}
use Rattle.matrix_market.specs.Sizes.{in_bounds}
use Rattle.matrix_market.specs.declared.ReadFault.{ReadFault}
use Rattle.matrix_market.specs.declared.ReadFault.TheVariants.{Header, SizeLine, Entry, LeftOver}

abbrev pub Bytes : Type 0
Bytes = List ℕ

abbrev pub onto : ℕ → List Bytes → List Bytes
onto b [] = (b ∷ []) ∷ []
onto b (p ∷ ps) = (b ∷ p) ∷ ps

abbrev pub lines : Bytes → List Bytes
lines [] = []
lines (b ∷ bs) = if b == 10 then [] ∷ lines bs else onto b (lines bs)

abbrev pub blank : ℕ → Bool
blank b = b == 32 || (b == 9 || b == 13)

abbrev pub ends : Bytes → Bool
ends [] = true
ends (b ∷ bs) = blank b

abbrev pub fields : Bytes → List Bytes
fields [] = []
fields (b ∷ bs) = if blank b then fields bs else if ends bs then (b ∷ []) ∷ fields bs else onto b (fields bs)

abbrev pub number : ℕ → Bytes → Option ℕ
number n [] = Some n
number n (c ∷ cs) = if is_ascii_digit c then number (10 * n + (c - 48)) cs else None

abbrev pub digits : ℕ → Bytes → Option ℕ
digits k ds = if nat_le 1 (length ds) && nat_le (length ds) k then number 0 ds else None

abbrev pub in_range : ℤ → Result ℤ (Option ElementFault)
in_range z = if nat_le (unsigned_abs z) 536870911 then Ok z else Err (Some Range)

abbrev pub ranged : Bool → Option ℕ → Result ℤ (Option ElementFault)
ranged minus None = Err None
ranged minus (Some n) = in_range (if minus then neg_ℤ (pos n) else pos n)

abbrev pub integer : Bytes → Result ℤ (Option ElementFault)
integer [] = Err None
integer (c ∷ cs) = if c == 45 then ranged true (digits 18 cs) else ranged false (digits 18 (c ∷ cs))

abbrev pub named : List Bytes → List Bytes → Bool
named [] [] = true
named [] (w ∷ ws) = false
named (f ∷ fs) [] = false
named (f ∷ fs) (w ∷ ws) = bytes_eq (map to_ascii_lowercase f) w && named fs ws

abbrev pub kind : List Bytes
kind = codes "matrix" ∷ (codes "array" ∷ (codes "integer" ∷ (codes "general" ∷ [])))

abbrev pub banner : Bytes
banner = codes "%%MatrixMarket"

abbrev pub is_header_line : Bytes → Bool
is_header_line l = bytes_eq (take 14 l) banner && (ends (drop 14 l) && named (fields (drop 14 l)) kind)

abbrev pub is_comment_line : Bytes → Bool
is_comment_line [] = false
is_comment_line (b ∷ bs) = b == 37

abbrev pub shape : Option ℕ → Option ℕ → Option (ℕ × ℕ)
shape None n = None
shape (Some m) None = None
shape (Some m) (Some n) = if in_bounds m n then Some (m, n) else None

abbrev pub sizes : List Bytes → Option (ℕ × ℕ)
sizes [] = None
sizes (f ∷ []) = None
sizes (f ∷ (g ∷ [])) = shape (digits 2 f) (digits 2 g)
sizes (f ∷ (g ∷ (h ∷ fs))) = None

abbrev pub entry : List Bytes → Result ℤ (Option ElementFault)
entry [] = Err None
entry (f ∷ []) = integer f
entry (f ∷ (g ∷ fs)) = Err None

abbrev pub inner : ℕ → Result ℤ (Option ElementFault) → Result ℤ ReadFault
inner at (Ok x) = Ok x
inner at (Err e) = Err (Entry at e)

abbrev pub before : Result ℤ ReadFault → Result (List ℤ) ReadFault → Result (List ℤ) ReadFault
before (Err e) r = Err e
before (Ok x) (Ok xs) = Ok (x ∷ xs)
before (Ok x) (Err e) = Err e

abbrev pub entries : ℕ → ℕ → List Bytes → Result (List ℤ) ReadFault
entries at zero [] = Ok []
entries at zero (l ∷ ls) = Err (LeftOver at)
entries at (suc k) [] = Err (Entry at None)
entries at (suc k) (l ∷ ls) = before (inner at (entry (fields l))) (entries (at + 1) k ls)

abbrev pub Matrix : Type 0
Matrix = ℕ × ℕ × List ℤ

abbrev pub shaped : ℕ → ℕ → Result (List ℤ) ReadFault → Result Matrix ReadFault
shaped m n (Ok xs) = Ok (m, n, xs)
shaped m n (Err e) = Err e

abbrev pub sized : Option (ℕ × ℕ) → ℕ → List Bytes → Result Matrix ReadFault
sized None at ls = Err (SizeLine at)
sized (Some p) at ls = shaped p.0 p.1 (entries (at + 1) (p.0 * p.1) ls)

abbrev pub body : ℕ → List Bytes → Result Matrix ReadFault
body at [] = Err (SizeLine at)
body at (l ∷ ls) = if is_comment_line l then body (at + 1) ls else sized (sizes (fields l)) at ls

abbrev pub headed : List Bytes → Result Matrix ReadFault
headed [] = Err (Header 1)
headed (l ∷ ls) = if is_header_line l then body 2 ls else Err (Header 1)

abbrev pub parse : Bytes → Result Matrix ReadFault
parse bs = if nat_le (length bs) 65536 then headed (lines bs) else Err (LeftOver 1)

abbrev pub column : List ℤ → Bytes
column [] = []
column (x ∷ xs) = signed_decimal x ++ (10 ∷ column xs)

abbrev pub opening : ℕ → ℕ → Bytes
opening m n = codes "%%MatrixMarket matrix array integer general" ++ (10 ∷ (decimal m ++ (32 ∷ (decimal n ++ (10 ∷ [])))))

abbrev pub text : ℕ → ℕ → List ℤ → Bytes
text m n xs = opening m n ++ column xs
