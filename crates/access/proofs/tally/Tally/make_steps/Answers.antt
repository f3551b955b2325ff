use Rattle.access.proofs.Counting.{counts_settled}
use Rattle.access.proofs.tally.Tally.make_steps.Goals as goal

pub returns-clause-counts : goal.returns-clause-counts
returns-clause-counts c = counts_settled _ _ _ _ _ c.record_steps.ensures.stands c.settle.ensures.view c.settle.ensures.last
    c.settle.ensures.each c.settle.ensures.all c.settle.ensures.sums c.settle.ensures.settled c.settle.ensures.slots
    c.settle.ensures.kinds
