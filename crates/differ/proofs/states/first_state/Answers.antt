use Rattle.std.proofs.Common.{◌-◌, ◌∙◌, refl, sym, ap, arith}
use Rattle.differ.proofs.Kept.{none_at_start}
use Rattle.differ.proofs.Parting.{apart_end, apart_here, apart_on, apart_start, none_after, step_told}
use Rattle.cpu.proofs.Turns.{few_cycles, fits_after, state_more}
use Rattle.differ.proofs.Steps.{run_zero}
use Rattle.differ.proofs.states.first_state.Goals as goal

pub loop-done-init : goal.loop-done-init
loop-done-init c = record {
  scenario = refl;
  other_scenario = refl;
  meter = omega arith;
  other_meter = omega arith;
  here = run_zero c.args.one.now.scenario _ 0 c.start-here.ensures.start refl;
  there = run_zero c.args.other.now.scenario _ 0 c.start-there.ensures.start refl;
  none = none_at_start _ _ (ap (λ s. s.cells) (c.start-here.ensures.start ∙ sym c.start-there.ensures.start));
  left = apart_start c.args.one.now.scenario c.args.other.now.scenario c.args.steps;
}

pub step_both-requires-clause-cycles : goal.step_both-requires-clause-cycles
step_both-requires-clause-cycles c = few_cycles _ _ _ c.loop-done.invariant.here (omega (arith, c.loop-done-test.true, c.requires.few))

pub step_both-requires-clause-other_cycles : goal.step_both-requires-clause-other_cycles
step_both-requires-clause-other_cycles c = few_cycles _ _ _ c.loop-done.invariant.there
    (omega (arith, c.loop-done-test.true, c.requires.few))

pub step_both-requires-clause-fits : goal.step_both-requires-clause-fits
step_both-requires-clause-fits c = fits_after _ _ _ _ c.loop-done.invariant.scenario c.loop-done.invariant.here

pub step_both-requires-clause-other_fits : goal.step_both-requires-clause-other_fits
step_both-requires-clause-other_fits c = fits_after _ _ _ _ c.loop-done.invariant.other_scenario c.loop-done.invariant.there

pub returns-in-Some-clause-apart : goal.returns-in-Some-clause-apart
returns-in-Some-clause-apart c =
    let one = c.args.one.now.scenario in
    let other = c.args.other.now.scenario in
    let i = c.loop-done.invariant in
    let told = step_told one other c.loop-done.done _ _ _ _ c.step_both.result i.here i.there (rw i.scenario at c.step_both.ensures.here)
    (rw i.other_scenario at c.step_both.ensures.there) i.none
    (rw (i.scenario, i.other_scenario) at c.step_both.ensures.apart) in
    sym (i.left ∙ apart_here one other c.loop-done.done c.args.steps _ c.loop-done-test.true (sym told ∙ c.in-Some.is))

pub loop-done-preserved : goal.loop-done-preserved
loop-done-preserved c =
    let one = c.args.one.now.scenario in
    let other = c.args.other.now.scenario in
    let i = c.loop-done.invariant in
    let here = state_more one _ c.loop-done.done _ _ i.scenario i.here c.step_both.ensures.here in
    let there = state_more other _ c.loop-done.done _ _ i.other_scenario i.there c.step_both.ensures.there in
    let told = step_told one other c.loop-done.done _ _ _ _ c.step_both.result i.here i.there (rw i.scenario at c.step_both.ensures.here)
    (rw i.other_scenario at c.step_both.ensures.there) i.none
    (rw (i.scenario, i.other_scenario) at c.step_both.ensures.apart) in
    let none = sym told ∙ c.in-None.is in
    record {
      scenario = c.step_both.ensures.scenario ∙ i.scenario;
      other_scenario = c.step_both.ensures.other_scenario ∙ i.other_scenario;
      meter = omega (arith, i.meter, c.step_both.ensures.meter);
      other_meter = omega (arith, i.other_meter, c.step_both.ensures.other_meter);
      here = here;
      there = there;
      none = none_after _ _ _ _ _ here there none;
      left = i.left ∙ apart_on one other c.loop-done.done c.args.steps c.loop-done-test.true none;
    }

pub returns-clause-apart : goal.returns-clause-apart
returns-clause-apart c = sym (c.loop-done.invariant.left
    ∙ apart_end c.args.one.now.scenario c.args.other.now.scenario c.loop-done.done c.args.steps (omega (arith, c.loop-done-test.false)))
