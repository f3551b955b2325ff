use Rattle.workshop.proofs.accessing.TallyCounting.count.Goals as goal

pub returns-clause-kept : goal.returns-clause-kept
returns-clause-kept c = c.make_steps.ensures.counts.keeps.same
