-- What the reader has still to read.
--
--   left         the lines that are left
--   value_of     the integer that an element stores, or a refusal
--   entries_of   the entries that the lines of a body give
--   matrix_of    the matrix that a body gives, or a refusal
--   filled_by    a table with the entries of a body put in, or their refusal
use Rattle.std.specs.Prelude.{◌*◌, List, ℤ, Ok, Err, Result}
use Rattle.integers.specs.declared.Integer.{Integer}
use Rattle.matrix_market.specs.declared.ReadFault.{ReadFault}
use Rattle.matrix_market.specs.declared.lines.Lines.{Lines}
use Rattle.matrix_market.specs.declared.reader.Body.{Body}
use Rattle.matrix_market.specs.Layout.{Bytes, Matrix, lines, entries, shaped}
use Rattle.matrix_market.specs.Stored.{filled}

abbrev pub left : Lines → List Bytes
left l = lines l.rest.now

abbrev pub value_of : Result Integer ReadFault → Result ℤ ReadFault
value_of (Ok x) = Ok x.value
value_of (Err e) = Err e

abbrev pub entries_of : Body → Result (List ℤ) ReadFault
entries_of b = entries b.lines.number (b.sizes.m * b.sizes.n) (left b.lines)

abbrev pub matrix_of : Result Body ReadFault → Result Matrix ReadFault
matrix_of (Ok b) = shaped b.sizes.m b.sizes.n (entries_of b)
matrix_of (Err e) = Err e

abbrev pub filled_by : Body → List Integer → Result (List Integer) ReadFault
filled_by b t = filled b.sizes.m 0 t (entries_of b)
