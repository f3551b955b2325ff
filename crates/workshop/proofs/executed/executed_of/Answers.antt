use Rattle.std.proofs.Common.{arith}
use Rattle.cover.specs.Tallies.{figures_at}
use Rattle.workshop.proofs.ExecutedWords.{executed_more, executed_none}
use Rattle.workshop.proofs.executed.executed_of.Goals as goal

pub loop-number-init : goal.loop-number-init
loop-number-init c = record { count = executed_none (figures_at c.args.tally.now) c.args.instructions.now; few = omega arith }

pub loop-number-preserved : goal.loop-number-preserved
loop-number-preserved c = record {
  count = executed_more (figures_at c.args.tally.now) c.args.instructions.now c.loop-number.number c.loop-number.count c.executed_at-count.result
      c.loop-number.invariant.count c.executed_at-count.ensures.value;
  few = omega (arith, c.loop-number.invariant.few, c.executed_at-count.ensures.few);
}
