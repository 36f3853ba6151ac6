-- The numbers of refusals, and what the program says of them.
--
--   number   the number of a refusal: its fault's, and none for want of memory or a spent budget
--   refused  what is said of a number
--   said     what is said of a refusal
use Rattle.std.specs.Prelude.{ℕ, ◌++◌, List, Some, None, codes, decimal, Option}
use Rattle.matrix_market.specs.Numbered.{read_number, write_number}
use Rattle.presentation.specs.Faults.{call_number}
use Rattle.calculator.specs.declared.refusal.Refusal.{Refusal}
use Rattle.calculator.specs.declared.refusal.Refusal.TheVariants.{Memory, Read, Call, Write, Spent}

abbrev pub number : Refusal → Option ℕ
number (Memory e) = None
number (Read fault) = Some (read_number fault)
number (Call fault) = Some (call_number fault)
number (Write fault) = Some (write_number fault)
number Spent = None

abbrev pub refused : ℕ → Option (List ℕ)
refused n = Some (codes "refused " ++ decimal n)

abbrev pub said : Refusal → Option (List ℕ)
said (Memory e) = Some (codes "out of memory")
said (Read fault) = refused (read_number fault)
said (Call fault) = refused (call_number fault)
said (Write fault) = refused (write_number fault)
said Spent = Some (codes "spent " ++ decimal 100000)
