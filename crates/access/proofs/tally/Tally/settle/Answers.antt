use Rattle.std.proofs.Common.{◌∙◌, ap, arith, length}
use Rattle.std.proofs.lemmas.List.{length-set}
use Rattle.access.proofs.Counting.{all_settled, kinds_settled, settle_sums, settled_more, slots_settled}
use Rattle.access.proofs.tally.Tally.settle.Goals as goal

pub loop-number-preserved : goal.loop-number-preserved
loop-number-preserved c =
    let n = c.loop-number.number in
    record {
      view = c.settle_at.ensures.view ∙ c.loop-number.invariant.view;
      last = c.settle_at.ensures.last ∙ c.loop-number.invariant.last;
      each = c.settle_at.ensures.each ∙ c.loop-number.invariant.each;
      all = ap length c.settle_at.ensures.kept ∙ length-set _ n _ ∙ c.loop-number.invariant.all;
      sums = λ i. settle_sums c.loop-number.self c.settle_at.new.self n (rw c.loop-number.invariant.all (omega (arith, c.loop-number-test.true))) c.settle_at.ensures.counts c.settle_at.ensures.kept i ∙ c.loop-number.invariant.sums i;
      settled = settled_more c.loop-number.self.kept c.settle_at.new.self.kept n (rw c.loop-number.invariant.all (omega (arith, c.loop-number-test.true))) c.settle_at.ensures.kept c.loop-number.invariant.settled;
      slots = λ j. slots_settled c.loop-number.self.kept c.settle_at.new.self.kept n (rw c.loop-number.invariant.all (omega (arith, c.loop-number-test.true))) c.settle_at.ensures.kept j ∙ c.loop-number.invariant.slots j;
      kinds = λ j. kinds_settled c.loop-number.self.kept c.settle_at.new.self.kept n (rw c.loop-number.invariant.all (omega (arith, c.loop-number-test.true))) c.settle_at.ensures.kept j ∙ c.loop-number.invariant.kinds j;
    }

pub returns-clause-settled : goal.returns-clause-settled
returns-clause-settled c = all_settled c.loop-number.self.kept c.loop-number.number (rw c.loop-number.invariant.all (omega (arith, c.loop-number-test.false, c.loop-number.auto.number-end)))
    c.loop-number.invariant.settled
