-- A relation that is the first n elements of a longer row.
use Rattle.std.proofs.Common.{ℕ, ◌≤◌, List, length, take, Ok, Err, Result, arith}
use Rattle.kinds.specs.Model.{Model}
use Rattle.presentation.specs.declared.fault.CallFault.{CallFault}
use Rattle.presentation.specs.declared.fault.CallFault.TheVariants.{Short, Generators, Full, InTable}
use Rattle.presentation.specs.declared.table.Axis.TheVariants.{Row}
use Rattle.presentation.specs.Calls.{LongAdd, Accepting}
use Rattle.presentation.specs.Lent.{LentAdd}
use Rattle.presentation.proofs.Products.{put_take, unfit_take}
use Rattle.presentation.proofs.Tables.{written_take}

module _ {E : Type 0} (n : ℕ) (row right : List E) (old : LentAdd E) (enough : n ≤ length row) where
  long_take : LongAdd (length (take n row)) (take n row) right old → LongAdd n row right old
  long_take long = record { row = enough; relations = long.relations; work = long.work; left = long.left; left_inverse = long.left_inverse; right = long.right }

  long_cut : LongAdd n row right old → LongAdd (length (take n row)) (take n row) right old
  long_cut long = record { row = omega arith; relations = long.relations; work = long.work; left = long.left; left_inverse = long.left_inverse; right = long.right }

  pub accepting_take : {S : Type 0} (m : Model E S) (k : ℕ) (new : LentAdd E) (r : Result (Unit {0}) CallFault)
      → Accepting m k (length (take n row)) (take n row) right old new r → Accepting m k n row right old new r
  accepting_take m k new (Ok x) (long, few, made) = (
    long_take long,
    few,
    record {
      relations = written_take Row k n row old.relations new.relations enough made.relations;
      work = put_take m n k row right old.work new.work enough made.work;
      left = made.left;
      left_inverse = made.left_inverse;
    },
  )
  accepting_take m k new (Err Short) (kept, short) = (kept, λ long. short (long_cut long))
  accepting_take m k new (Err Full) (kept, long, full) = (kept, long_take long, full)
  accepting_take m k new (Err (InTable f)) (kept, long, few, unfit) = (kept, long_take long, few, unfit_take m n k row right f enough unfit)
  accepting_take m k new (Err Generators) none = none
