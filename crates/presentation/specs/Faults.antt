-- The numbers of refusals.
--
--   call_number  Short 4, Generators 5, Full 6, and an element's fault by its own number
use Rattle.std.specs.Prelude.{ℕ}
use Rattle.kinds.specs.Outcomes.{fault_number}
use Rattle.presentation.specs.declared.fault.CallFault.{CallFault}
use Rattle.presentation.specs.declared.fault.CallFault.TheVariants.{Short, Generators, Full, InTable}

abbrev pub call_number : CallFault → ℕ
call_number Short = 4
call_number Generators = 5
call_number Full = 6
call_number (InTable f) = fault_number f.fault
