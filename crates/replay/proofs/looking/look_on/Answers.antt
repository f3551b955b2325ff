use Rattle.std.proofs.Common.{◌∙◌, refl, sym, ap, arith}
use Rattle.cpu.specs.State.{Processing}
use Rattle.cpu.proofs.RunLaws.{run-zero}
use Rattle.cpu.proofs.TakenLaws.{run-fits}
use Rattle.replay.proofs.SessionLemmas.{steps_on}
use Rattle.replay.proofs.LookedLemmas.{looked_more}
use Rattle.replay.proofs.looking.look_on.Goals as goal

pub loop-init : goal.loop-init
loop-init g c = record {
  machine = c.requires.stands ∙ sym (run-zero c.args.processor.now.scenario);
  looked = refl;
  scenario = refl;
  metered = c.requires.metered;
  least = omega arith;
  most = omega arith;
}

pub look-requires : goal.look-requires
look-requires g c = rw (c.loop.invariant.scenario, c.loop.invariant.machine) (run-fits c.args.processor.now.scenario c.loop.counter)

pub loop-preserved : goal.loop-preserved
loop-preserved g c =
    let kept = c.loop.invariant in
    let same = kept.scenario in
    let p = c.args.processor.now.scenario in
    let meter = ap (λ (q : Processing). q.meter) c.make_step.ensures.meter in
    record {
      machine = steps_on p c.loop.counter c.loop.shown.machine c.make_step.new.machine c.make_step.result (omega arith) kept.machine
          (λ low. rw same at (c.make_step.ensures.step low));
      looked = looked_more g.L.Onlooker.sees p c.loop.counter c.args.onlooker.now c.loop.onlooker c.look.new.self c.loop.shown.machine
          kept.looked kept.machine (rw same at c.look.ensures);
      scenario = ap (λ (q : Processing). q.scenario) c.make_step.ensures.meter ∙ same;
      metered = omega (arith, meter);
      least = omega (arith, c.make_step.ensures.growing kept.metered);
      most = omega (arith, meter);
    }
