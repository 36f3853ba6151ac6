-- The tables that a call is lent.
--
--   Same       a lent transform and its inverse still lie in the same memory, of the same length
--   LentAdd    what add writes: A, W, P, P*
--   lent_add   two tables, and a transform with its inverse, as such
--   LentStep   what step and run are lent: W, P, P*, Q, Q*
--   lent_step  a table, and two transforms with their inverses, as such
use Rattle.std.specs.Prelude.{◌≡◌, List, length}
use Rattle.presentation.specs.declared.table.Transform.{Transform}

pub record Same {E : Type 0} (old new : Transform E) : Type 0 where
  pub matrix : new.matrix.ghost_name ≡ old.matrix.ghost_name
  pub inverse : new.inverse.ghost_name ≡ old.inverse.ghost_name
  pub matrix_length : length new.matrix.now ≡ length old.matrix.now
  pub inverse_length : length new.inverse.now ≡ length old.inverse.now

pub record LentAdd (E : Type 0) : Type 0 where
  pub relations : List E
  pub work : List E
  pub left : List E
  pub left_inverse : List E

abbrev pub lent_add : {E : Type 0} → List E → List E → Transform E → LentAdd E
lent_add a w p = record { relations = a; work = w; left = p.matrix.now; left_inverse = p.inverse.now }

pub record LentStep (E : Type 0) : Type 0 where
  pub work : List E
  pub left : List E
  pub left_inverse : List E
  pub right : List E
  pub right_inverse : List E

abbrev pub lent_step : {E : Type 0} → List E → Transform E → Transform E → LentStep E
lent_step w p q = record { work = w; left = p.matrix.now; left_inverse = p.inverse.now; right = q.matrix.now; right_inverse = q.inverse.now }
