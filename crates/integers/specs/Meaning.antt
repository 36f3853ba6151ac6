-- The integers as a kind.
--
--   meaning    the member that an element means: its value, or zero where that is out of range
--   sign       1, or -1 below zero
--   integers   the model of the kind
use Rattle.std.specs.Prelude.{◌≤◌, if◌then◌else◌, T, ℤ, pos, negsuc, nat_le, unsigned_abs}
use Rattle.std.specs.Int.Signed.{non_neg}
use Rattle.std.specs.Int.{int_div_euclid, int_rem_euclid}
use Rattle.algebra.specs.Whole.{whole}
use Rattle.kinds.specs.Model.{Model}
use Rattle.integers.specs.declared.Integer.{Integer}
use Rattle.integers.specs.declared.sum.IntegerSum.{IntegerSum}

abbrev pub meaning : Integer → ℤ
meaning e = if nat_le (unsigned_abs e.value) 536870911 then e.value else pos 0

abbrev pub sign : ℤ → ℤ
sign a = if non_neg a then pos 1 else negsuc 0

abbrev pub integers : Model Integer IntegerSum
integers = record {
  Member = ℤ;
  ring = whole;
  Fits = λ a. unsigned_abs a ≤ 536870911;
  mean = meaning;
  total = λ s. s.total;
  count = λ s. s.count;
  size = unsigned_abs;
  quotient = int_div_euclid;
  remainder = int_rem_euclid;
  Normal = λ a. T (non_neg a);
  unit = sign;
  inverse = sign;
}
