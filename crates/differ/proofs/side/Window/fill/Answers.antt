use Rattle.std.proofs.Common.{◌-◌, ◌∙◌, List, refl, ap, arith}
use Rattle.std.specs.Option.{option_to_list}
use Rattle.differ.specs.MainSteps.{MainStep}
use Rattle.differ.proofs.Sides.{fill_more, within_more}
use Rattle.cpu.proofs.Turns.{few_cycles, fits_after, state_more}
use Rattle.differ.proofs.side.Window.fill.Goals as goal

pub loop-number-init : goal.loop-number-init
loop-number-init c = record {
  scenario = refl;
  meter = omega arith;
  within = c.requires.within;
  machine = c.requires.stands;
  known = c.requires.known;
  short = c.requires.short;
  side = refl;
}

pub make_main_step-step-requires-clause-cycles : goal.make_main_step-step-requires-clause-cycles
make_main_step-step-requires-clause-cycles c = few_cycles _ _ _ c.loop-number.invariant.machine
    (omega (arith, c.if-self-steps.true, c.requires.few))

pub make_main_step-step-requires-clause-fits : goal.make_main_step-step-requires-clause-fits
make_main_step-step-requires-clause-fits c = fits_after _ _ _ _ c.loop-number.invariant.scenario c.loop-number.invariant.machine

pub loop-number-preserved : goal.loop-number-preserved
loop-number-preserved c =
    let i = c.loop-number.invariant in
    let n = c.loop-number.self.done in
    let scenario = c.args.processor.now.scenario in
    let after = option_to_list c.make_main_step-step.result in
    let here = rw (i.scenario, i.machine) at c.make_main_step-step.ensures.step in
    record {
      scenario = c.make_main_step-step.ensures.scenario ∙ i.scenario;
      meter = omega (arith, i.meter, c.make_main_step-step.ensures.meter);
      within = omega (arith, c.if-self-steps.true);
      machine = state_more scenario _ n _ _ i.scenario i.machine c.make_main_step-step.ensures.state;
      known = within_more _ _ n c.args.steps c.loop-number.self.ahead.items after c.keep.new.ahead.items c.if-self-steps.true i.known
          c.make_main_step-step.ensures.step c.keep.ensures.items;
      short = c.keep.ensures.short;
      side = ap (λ (xs : List MainStep). record { before = c.loop-number.self.before.items; rest = xs })
          (fill_more scenario c.args.steps n c.loop-number.self.ahead.items after c.keep.new.ahead.items c.if-self-steps.true here
          c.keep.ensures.items) ∙ i.side;
    }
