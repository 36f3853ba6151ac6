-- What the calculator answers.
--
--   zeros       a table of zeros
--   Afterwards  what may be answered once a matrix was read: anything but a refusal of the reader
--   Answering   what is answered of a text: the reader's refusal, and nothing but that, where it is no matrix; want of
--               memory says nothing of the text
use Rattle.std.specs.Prelude.{◌≡◌, List, replicate, pos, Ok, Err, Result, IsOk}
use Rattle.integers.specs.declared.Integer.{Integer}
use Rattle.matrix_market.specs.Layout.{Bytes}
use Rattle.matrix_market.specs.Stored.{reading}
use Rattle.calculator.specs.declared.refusal.Refusal.{Refusal}
use Rattle.calculator.specs.declared.refusal.Refusal.TheVariants.{Memory, Read, Call, Write, Spent}

abbrev pub zeros : List Integer
zeros = replicate 1024 (record { value = pos 0 })

abbrev pub Afterwards : {X : Type 0} → Result X Refusal → Type 0
Afterwards (Ok x) = Unit {0}
Afterwards (Err (Memory e)) = Unit {0}
Afterwards (Err (Read fault)) = ⊥
Afterwards (Err (Call fault)) = Unit {0}
Afterwards (Err (Write fault)) = Unit {0}
Afterwards (Err Spent) = Unit {0}

abbrev pub Answering : {X : Type 0} → Bytes → Result X Refusal → Type 0
Answering text (Ok form) = IsOk (reading text zeros).0
Answering text (Err (Memory e)) = Unit {0}
Answering text (Err (Read fault)) = (reading text zeros).0 ≡ Err fault
Answering text (Err (Call fault)) = IsOk (reading text zeros).0
Answering text (Err (Write fault)) = IsOk (reading text zeros).0
Answering text (Err Spent) = IsOk (reading text zeros).0
