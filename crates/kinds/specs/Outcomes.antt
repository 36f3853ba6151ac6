-- What the calls on elements and sums leave, and the numbers of their faults.
--
--   fault_number Range 1, Zero divisor 2, Sum full 3
--   Becomes      a lent element means a given member, or Range: the member does not fit and the element is left
--   Makes        an element made of a given member means it, or Range: the member does not fit
--   Takes        a sum took one product more, or Sum full: it had 32 and is left
--   Divided      lent quotient and remainder are set, or Zero divisor: both are left
use Rattle.std.specs.Prelude.{◌≡◌, ℕ, ◌+◌, ◌<◌, ◌≤◌, Ok, Err, Result, ◌≢◌}
use Rattle.kinds.specs.declared.ElementFault.{ElementFault}
use Rattle.kinds.specs.declared.ElementFault.TheVariants.{Range, ZeroDivisor, SumFull}
use Rattle.kinds.specs.Model.{Model}

abbrev pub fault_number : ElementFault → ℕ
fault_number Range = 1
fault_number ZeroDivisor = 2
fault_number SumFull = 3

module _ {E S : Type 0} (m : Model E S) where
  abbrev pub Becomes : m.Member → E → E → Result (Unit {0}) ElementFault → Type 0
  Becomes a old new (Ok x) = m.mean new ≡ a
  Becomes a old new (Err e) = (e ≡ Range) × (new ≡ old) × ¬ (m.Fits a)

  abbrev pub Makes : m.Member → Result E ElementFault → Type 0
  Makes a (Ok e) = m.mean e ≡ a
  Makes a (Err e) = (e ≡ Range) × ¬ (m.Fits a)

  abbrev pub Takes : m.Member → S → S → Result (Unit {0}) ElementFault → Type 0
  Takes p old new (Ok x) = (m.count old < 32) × (m.count new ≡ m.count old + 1) × (m.total new ≡ m.ring.add (m.total old) p)
  Takes p old new (Err e) = (e ≡ SumFull) × (new ≡ old) × (32 ≤ m.count old)

  abbrev pub Divided : m.Member → m.Member → E → E → E → E → Result (Unit {0}) ElementFault → Type 0
  Divided a b oldq oldr q r (Ok x) = (b ≢ m.ring.zero) × (m.mean q ≡ m.quotient a b) × (m.mean r ≡ m.remainder a b)
  Divided a b oldq oldr q r (Err e) = (e ≡ ZeroDivisor) × (q ≡ oldq) × (r ≡ oldr) × (b ≡ m.ring.zero)
