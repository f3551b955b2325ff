use Rattle.std.proofs.Common.{refl}
use Rattle.cpu.proofs.Turns.{few_cycles, fits_after, state_more}
use Rattle.delays.proofs.Measuring.{measures_more, small}
use Rattle.delays.proofs.tally.DelaysProfiler.record.Goals as goal

pub step-requires-clause-cycles : goal.step-requires-clause-cycles
step-requires-clause-cycles c = few_cycles _ c.args.done _ c.requires.state c.requires.few

pub step-requires-clause-fits : goal.step-requires-clause-fits
step-requires-clause-fits c = fits_after c.args.processor.now.scenario _ c.args.done _ refl c.requires.state

pub step-requires-clause-small : goal.step-requires-clause-small
step-requires-clause-small c = small c.args.processor.now.scenario c.args.done _ c.requires.few c.requires.stands

pub returns-clause-stands : goal.returns-clause-stands
returns-clause-stands c =
    let p = c.args.processor.now.scenario in
    let made = c.step.ensures in
    measures_more p p c.args.done _ _ _ _ refl c.requires.state (state_more p p c.args.done _ _ refl c.requires.state made.state)
    c.requires.stands made.cause made.wait made.span made.call made.delays
