use Rattle.std.proofs.Common.{◌∙◌, add-one, arith, rules, w64, SFits}
use Rattle.std.proofs.lemmas.Int.{to_z-of_z}
use Rattle.matrix_market.proofs.Pieces.{appends_then, length_signed, column_more}
use Rattle.matrix_market.proofs.writer.put_entries.Goals as goal

pub loop-k-preserved : goal.loop-k-preserved
loop-k-preserved c =
    let fits : SFits w64 c.get.result = search rules in
    let same = to_z-of_z w64 c.get.result fits in
    record {
      appends =
          rw (add-one, column_more c.args.sizes.m 0 c.loop-k.k c.loop-k.k _ c.args.table.now _ (omega arith) c.place.ensures.value (same ∙ c.get.ensures.value))
          (appends_then _ _ _ _ _ _ _ _ c.loop-k.invariant.appends (appends_then _ _ _ _ _ _ _ _ c.put_number-after.ensures c.put-end.ensures));
      bound = grind (arith, length_signed, same);
    }
