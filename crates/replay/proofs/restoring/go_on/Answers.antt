use Rattle.std.proofs.Common.{◌∙◌, ap, arith, sym}
use Rattle.cpu.specs.Run.{run}
use Rattle.cpu.specs.State.{Processing, Scenario}
use Rattle.replay.proofs.restoring.go_on.Goals as goal

pub run_on-to-requires-clause-stands : goal.run_on-to-requires-clause-stands
run_on-to-requires-clause-stands c =
    let kept = c.loop-at.invariant in
    kept.machine ∙ ap (λ (p : Scenario). run p c.loop-at.at) (sym kept.scenario)

pub loop-at-preserved : goal.loop-at-preserved
loop-at-preserved c =
    let kept = c.loop-at.invariant in
    let to = c.run_on-to.result.0 in
    let meter = ap (λ (p : Processing). p.meter) c.run_on-to.ensures.meter in
    record {
      low = omega (arith, kept.low, c.run_on-to.ensures.past);
      high = c.run_on-to.ensures.within;
      machine = c.run_on-to.ensures.state ∙ ap (λ (p : Scenario). run p to) kept.scenario;
      scenario = ap (λ (p : Processing). p.scenario) c.run_on-to.ensures.meter ∙ kept.scenario;
      metered = omega (arith, meter);
      least = omega (arith, kept.least, meter, kept.metered, c.run_on-to.ensures.past);
      most = omega (arith, kept.most, meter, c.run_on-to.ensures.past);
    }
