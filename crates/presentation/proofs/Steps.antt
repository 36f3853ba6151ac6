-- From one call to the next: numbers keep their bounds, and lent tables and transforms stay where they are, and as long.
use Rattle.std.proofs.Common.{◌≡◌, List, length, refl, ◌∙◌, arith}
use Rattle.presentation.specs.Calls.{LongStep, after}
use Rattle.presentation.specs.declared.prescribe.Line.{Line}
use Rattle.presentation.specs.declared.prescribe.Line.TheVariants.{SwapRows, SwapColumns, Normalise, ReduceRow, ReduceColumn, AddColumn, Advance}
use Rattle.presentation.specs.declared.table.Transform.{Transform}
use Rattle.presentation.specs.Lent.{Same, lent_step}
use Rattle.presentation.specs.Rests.{Placed}
use Rattle.presentation.specs.Shapes.{Shape, Bounded}

pub still_bounded : {E : Type 0} (s : Shape) (line : Line E) → Placed s line → Bounded s → Bounded (after line s)
still_bounded s (SwapRows i) p b = b
still_bounded s (SwapColumns j) p b = b
still_bounded s (Normalise u v) p b = b
still_bounded s (ReduceRow i q) p b = b
still_bounded s (ReduceColumn j q) p b = b
still_bounded s (AddColumn j one) p b = b
still_bounded s Advance p b = record {
  relations = b.relations;
  some_generator = b.some_generator;
  generators = b.generators;
  by_relations = omega (arith, p.row);
  by_generators = omega (arith, p.column);
}

pub same_none : {E : Type 0} (a : Transform E) → Same a a
same_none a = record { matrix = refl; inverse = refl; matrix_length = refl; inverse_length = refl }

pub same_then : {E : Type 0} {a b c : Transform E} → Same a b → Same b c → Same a c
same_then f g = record {
  matrix = g.matrix ∙ f.matrix;
  inverse = g.inverse ∙ f.inverse;
  matrix_length = g.matrix_length ∙ f.matrix_length;
  inverse_length = g.inverse_length ∙ f.inverse_length;
}

-- tables stay as long as they are
pub long_still : {E : Type 0} {w w' : List E} {p p' q q' : Transform E} → length w' ≡ length w → Same p p' → Same q q' → LongStep (lent_step w p q) → LongStep (lent_step w' p' q')
long_still e f g long = record {
  work = omega (arith, long.work, e);
  left = omega (arith, long.left, f.matrix_length);
  left_inverse = omega (arith, long.left_inverse, f.inverse_length);
  right = omega (arith, long.right, g.matrix_length);
  right_inverse = omega (arith, long.right_inverse, g.inverse_length);
}
