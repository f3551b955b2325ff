use Rattle.std.proofs.Common.{◌∙◌, arith, refl, sym}
use Rattle.cpu.proofs.Turns.{few_cycles, fits_after, state_more}
use Rattle.differ.proofs.Steps.{run_zero}
use Rattle.differ.proofs.Writers.{none_wrote, wrote_more}
use Rattle.differ.proofs.causes.last_writer.Goals as goal

pub loop-done-init : goal.loop-done-init
loop-done-init c = record {
  scenario = refl;
  meter = omega arith;
  machine = run_zero c.args.processor.now.scenario _ 0 c.start-machine.ensures.start refl;
  found = sym (none_wrote c.args.processor.now.scenario c.args.cell);
  within = tt;
}

pub step_on-requires-clause-cycles : goal.step_on-requires-clause-cycles
step_on-requires-clause-cycles c = few_cycles _ _ _ c.loop-done.invariant.machine (omega (arith, c.loop-done-test.true, c.requires.few))

pub step_on-requires-clause-fits : goal.step_on-requires-clause-fits
step_on-requires-clause-fits c = fits_after _ _ _ _ c.loop-done.invariant.scenario c.loop-done.invariant.machine

pub loop-done-preserved : goal.loop-done-preserved
loop-done-preserved c =
    let i = c.loop-done.invariant in
    let one = c.args.processor.now.scenario in
    record {
      scenario = c.step_on.ensures.scenario ∙ i.scenario;
      meter = omega (arith, c.step_on.ensures.meter, i.meter);
      machine = state_more one _ c.loop-done.done _ _ i.scenario i.machine c.step_on.ensures.machine;
      found = wrote_more one _ c.args.cell c.loop-done.done _ _ _ _ i.scenario i.machine
          (c.writes.ensures (fits_after one _ c.loop-done.done _ i.scenario i.machine)) i.found c.latest-last.ensures.latest;
      within = c.latest-last.ensures.within c.loop-done.done i.within (omega arith);
    }
