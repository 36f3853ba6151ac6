-- Tables before there is a relation.
--
--   Blank   each of the six tables is one of zeros
use Rattle.std.specs.Prelude.{◌≡◌}
use Rattle.calculator.specs.Answers.{zeros}
use Rattle.calculator.specs.declared.tables.Tables.{Tables}

pub record Blank (t : Tables) : Type 0 where
  pub relations : t.relations.items ≡ zeros
  pub work : t.work.items ≡ zeros
  pub left : t.left.items ≡ zeros
  pub left_inverse : t.left_inverse.items ≡ zeros
  pub right : t.right.items ≡ zeros
  pub right_inverse : t.right_inverse.items ≡ zeros
