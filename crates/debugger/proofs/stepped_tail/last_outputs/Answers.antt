use Rattle.std.proofs.Common.{ap, ◌∙◌, arith}
use Rattle.cpu.specs.State.{Scenario}
use Rattle.replay.specs.Found.{found_by, last_found}
use Rattle.replay.specs.View.{SessionView}
use Rattle.debugger.proofs.SteppedOutputs.{puts_out, one_before, none_before, cost_one}
use Rattle.debugger.proofs.stepped_tail.last_outputs.Goals as goal

pub returns-in_default-clause-last : goal.returns-in_default-clause-last
returns-in_default-clause-last g c =
    let far = c.loop-found.invariant in
    let none = none_before c.args.session.now.scenario c.loop-found.first
    (c.in_default.ensures.last ∙ ap (λ (q : Scenario). last_found (found_by puts_out q) c.loop-found.first) far.scenario) in
    omega (arith, none, far.told, c.loop-found-test.true)

pub loop-found-preserved : goal.loop-found-preserved
loop-found-preserved g c =
    let far = c.loop-found.invariant in
    let sought = c.in-Some.ensures in
    let one = one_before c.args.session.now.scenario c.loop-found.first _
    (sought.last ∙ ap (λ (q : Scenario). last_found (found_by puts_out q) c.loop-found.first) far.scenario) in
    let steps = ap (λ (v : SessionView). v.n) sought.after.same in
    record {
      within = omega (arith, sought.before, far.within, steps);
      few = omega (arith, c.loop-found-test.true);
      told = omega (arith, one, far.told);
      scenario = ap (λ (v : SessionView). v.scenario) sought.after.same ∙ far.scenario;
      steps = steps ∙ far.steps;
      cost = cost_one c.args.session.now.meter c.loop-found.session.meter _ c.args.session.now.n c.loop-found.session.n _ c.loop-found.found
          far.cost sought.after.found far.steps;
    }
