use Rattle.std.proofs.Common.{sym}
use Rattle.names.proofs.UseSteps.{count_more, few_more}
use Rattle.names.proofs.uses.count_places.Goals as goal

pub loop-index-preserved : goal.loop-index-preserved
loop-index-preserved c = record {
  few = few_more _ _ _ c.loop-index.index c.counted-count.ensures c.loop-index.invariant.few;
  left = count_more c.args.names.now c.loop-index.index (c.in-Some.symbol.0.now, c.in-Some.symbol.1) c.loop-index.count c.counted-count.result
      _ (sym c.in-Some.ensures.value) (rw c.place_of.ensures at c.counted-count.ensures) c.loop-index.invariant.left;
}
