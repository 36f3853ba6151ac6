-- The numbers of the refusals.
--
--   read_number   Short 4, Header 10, Size line 11, Entry 12, Left over 13
--   write_number  Short 4, Sizes 8
use Rattle.std.specs.Prelude.{ℕ}
use Rattle.matrix_market.specs.declared.ReadFault.{ReadFault}
use Rattle.matrix_market.specs.declared.ReadFault.TheVariants.{Short, Header, SizeLine, Entry, LeftOver}
use Rattle.matrix_market.specs.declared.WriteFault.{WriteFault}
use Rattle.matrix_market.specs.declared.WriteFault.TheVariants as write

abbrev pub read_number : ReadFault → ℕ
read_number Short = 4
read_number (Header line) = 10
read_number (SizeLine line) = 11
read_number (Entry line inner) = 12
read_number (LeftOver line) = 13

abbrev pub write_number : WriteFault → ℕ
write_number write.Short = 4
write_number write.Sizes = 8
