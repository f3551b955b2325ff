use Rattle.std.proofs.Common.{◌≡◌, ◌∙◌, true, false, refl, sym, arith}
use Rattle.cpu.proofs.RunLaws.{run-zero}
use Rattle.cpu.proofs.Turns.{few_cycles, fits_after, state_more}
use Rattle.idle.proofs.Turns.{checkpoint_more, few_step, idle_at, idles_is, none_first, none_more}
use Rattle.idle.proofs.Turns.{none_put, puts_more}
use Rattle.idle.proofs.until.steps_until_idle.Goals as goal

pub loop-done-init : goal.loop-done-init
loop-done-init c = record {
  scenario = refl;
  meter = omega arith;
  state = c.start-machine.ensures.start ∙ sym (run-zero c.args.processor.now.scenario);
  outputs = none_put c.args.processor.now.scenario;
  few = omega arith;
  kept = c.start-kept.ensures;
  none = none_first c.args.processor.now.scenario;
}

pub step_and_count-outputs-requires-clause-cycles : goal.step_and_count-outputs-requires-clause-cycles
step_and_count-outputs-requires-clause-cycles c = few_cycles _ _ _ c.loop-done.invariant.state
    (omega (arith, c.loop-done-test.true, c.requires))

pub step_and_count-outputs-requires-clause-fits : goal.step_and_count-outputs-requires-clause-fits
step_and_count-outputs-requires-clause-fits c = fits_after _ _ _ _ c.loop-done.invariant.scenario c.loop-done.invariant.state

pub returns-then-is_again-clause-steps : goal.returns-then-is_again-clause-steps
returns-then-is_again-clause-steps c =
    let one = c.args.processor.now.scenario in
    let i = c.loop-done.invariant in
    let step = c.step_and_count-outputs.ensures in
    let state = state_more one _ c.loop-done.done _ _ i.scenario i.state step.state in
    let outputs = puts_more one _ c.loop-done.done _ _ _ i.scenario i.state i.outputs step.count in
    let again : true ≡ c.is_again.result = sym c.if-is_again.true in
    idle_at one c.loop-done.done c.args.most c.loop-done-test.true i.none
    (sym (idles_is one c.loop-done.done _ _ _ true state outputs i.kept (again ∙ c.is_again.ensures)))

pub renew-requires-clause-few : goal.renew-requires-clause-few
renew-requires-clause-few c = few_step c.args.processor.now.scenario c.loop-done.done _ c.loop-done.invariant.kept
    (omega (arith, c.loop-done-test.true, c.requires))

pub loop-done-preserved : goal.loop-done-preserved
loop-done-preserved c =
    let one = c.args.processor.now.scenario in
    let i = c.loop-done.invariant in
    let step = c.step_and_count-outputs.ensures in
    let same = step.scenario ∙ i.scenario in
    let state = state_more one _ c.loop-done.done _ _ i.scenario i.state step.state in
    let outputs = puts_more one _ c.loop-done.done _ _ _ i.scenario i.state i.outputs step.count in
    let busy : false ≡ c.is_again.result = sym c.if-is_again.false in
    record {
      scenario = same;
      meter = omega (arith, i.meter, step.meter);
      state = state;
      outputs = outputs;
      few = omega (arith, i.few, step.few);
      kept = checkpoint_more one _ c.loop-done.done _ _ _ _ same state outputs i.kept c.renew.ensures;
      none = none_more one c.loop-done.done i.none
          (sym (idles_is one c.loop-done.done _ _ _ false state outputs i.kept (busy ∙ c.is_again.ensures)));
    }
