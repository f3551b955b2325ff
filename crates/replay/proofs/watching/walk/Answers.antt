use Rattle.std.proofs.Common.{◌≡◌, ◌∙◌, false, true, refl, ap, arith}
use Rattle.cpu.specs.State.{Processing}
use Rattle.cpu.proofs.Turns.{few_cycles, fits_after, state_more}
use Rattle.replay.proofs.WalkedLemmas.{walked_none, walked_more}
use Rattle.replay.proofs.watching.walk.Goals as goal

pub loop-at-init : goal.loop-at-init
loop-at-init g c = record {
  machine = c.requires.stands;
  walked = walked_none g.S.Stepper.sees c.args.processor.now.scenario c.args.low c.args.stepper.now;
  scenario = refl;
  metered = c.requires.metered;
  least = omega arith;
  most = omega arith;
}

pub make_step-requires-clause-cycles : goal.make_step-requires-clause-cycles
make_step-requires-clause-cycles g c = few_cycles _ _ _ c.loop-at.invariant.machine (omega arith)

pub make_step-requires-clause-fits : goal.make_step-requires-clause-fits
make_step-requires-clause-fits g c = fits_after _ _ _ _ c.loop-at.invariant.scenario c.loop-at.invariant.machine

pub loop-at-preserved : goal.loop-at-preserved
loop-at-preserved g c =
    let meter = ap (λ (q : Processing). q.meter) c.make_step.ensures.processor in
    record {
      machine = state_more _ _ _ _ _ c.loop-at.invariant.scenario c.loop-at.invariant.machine c.make_step.ensures.state;
      walked = walked_more g.S.Stepper.sees c.args.processor.now.scenario c.args.low c.loop-at.at false c.args.stepper.now c.loop-at.stepper c.make_step.new.self
          c.loop-at.machine c.loop-at.invariant.walked c.loop-at.invariant.machine (rw (c.loop-at.invariant.scenario, c.if-make_step.false) at c.make_step.ensures.sees);
      scenario = ap (λ (q : Processing). q.scenario) c.make_step.ensures.processor ∙ c.loop-at.invariant.scenario;
      metered = omega (arith, c.loop-at.invariant.metered, meter);
      least = omega (arith, c.loop-at.invariant.least, meter);
      most = omega (arith, c.loop-at.invariant.most, meter);
    }

pub returns-then-make_step : goal.returns-then-make_step
returns-then-make_step g c =
    let meter = ap (λ (q : Processing). q.meter) c.make_step.ensures.processor in
    record {
      past = omega arith;
      within = omega arith;
      all = λ e. absurd (let bad : true ≡ false = e in cc);
      machine = state_more _ _ _ _ _ c.loop-at.invariant.scenario c.loop-at.invariant.machine c.make_step.ensures.state;
      walked = walked_more g.S.Stepper.sees c.args.processor.now.scenario c.args.low c.loop-at.at true c.args.stepper.now c.loop-at.stepper c.make_step.new.self c.loop-at.machine
          c.loop-at.invariant.walked c.loop-at.invariant.machine (rw (c.loop-at.invariant.scenario, c.if-make_step.true) at c.make_step.ensures.sees);
      scenario = ap (λ (q : Processing). q.scenario) c.make_step.ensures.processor ∙ c.loop-at.invariant.scenario;
      metered = omega (arith, c.loop-at.invariant.metered, meter);
      least = omega (arith, c.loop-at.invariant.least, meter);
      most = omega (arith, c.loop-at.invariant.most, meter);
    }
