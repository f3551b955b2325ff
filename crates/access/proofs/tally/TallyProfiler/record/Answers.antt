use Rattle.std.proofs.Common.{ap, arith, refl}
use Rattle.cpu.proofs.Turns.{few_cycles, fits_after}
use Rattle.access.proofs.Counting.{few_longer, keeps_more, small}
use Rattle.access.proofs.tally.TallyProfiler.record.Goals as goal

pub count_step-requires-clause-fits : goal.count_step-requires-clause-fits
count_step-requires-clause-fits c = fits_after c.args.processor.now.scenario _ c.args.done _ refl c.requires.state

pub count_step-requires-clause-small : goal.count_step-requires-clause-small
count_step-requires-clause-small c = small _ c.args.processor.now.scenario c.args.done _ (omega (arith, c.requires.few)) c.requires.stands

pub count_step-requires-clause-few : goal.count_step-requires-clause-few
count_step-requires-clause-few c = few_longer _ c.args.done _ (omega (arith, c.requires.few)) c.requires.stands.few

pub count_step-requires-clause-kept : goal.count_step-requires-clause-kept
count_step-requires-clause-kept c = c.requires.stands.kept

pub returns-clause-state : goal.returns-clause-state
returns-clause-state c = ap (λ p. p.0)
    (c.step.ensures.step (few_cycles _ c.args.done _ c.requires.state c.requires.few)
    (fits_after c.args.processor.now.scenario _ c.args.done _ refl c.requires.state))

pub returns-clause-kept : goal.returns-clause-kept
returns-clause-kept c = c.count_step.ensures.counts.view

pub returns-clause-stands : goal.returns-clause-stands
returns-clause-stands c =
    let p = c.args.processor.now.scenario in
    keeps_more _ p p c.args.done _ _ _ refl c.requires.state c.requires.stands c.count_step.ensures
