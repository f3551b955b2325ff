use Rattle.std.proofs.Common.{◌∙◌, refl, ap, arith}
use Rattle.std.proofs.lemmas.Result.{err_from_is_err_and}
use Rattle.words.specs.Devices.{one_more}
use Rattle.cpu.specs.State.{Processing}
use Rattle.cpu.proofs.Turns.{few_cycles, fits_after, state_more}
use Rattle.replay.proofs.RetracedLemmas.{texts_none, texts_more, texts_part}
use Rattle.replay.proofs.retracing.write_steps.Goals as goal

pub loop-at-init : goal.loop-at-init
loop-at-init g c = record {
  machine = c.requires.way.stands;
  step = c.requires.there;
  written = λ told. texts_none (g.T.StepWriter.text c.args.writer.now c.args.processor.now.scenario) c.args.processor.now.scenario
      c.args.low (g.W.Write.written c.args.out.now);
  failures = refl;
  scenario = refl;
  metered = c.requires.way.metered;
  least = omega arith;
  most = omega arith;
}

pub write_step-requires-clause-cycles : goal.write_step-requires-clause-cycles
write_step-requires-clause-cycles g c = few_cycles _ _ _ c.loop-at.invariant.machine (omega (arith, c.requires.way.within))

pub write_step-requires-clause-fits : goal.write_step-requires-clause-fits
write_step-requires-clause-fits g c = fits_after _ _ _ _ c.loop-at.invariant.scenario c.loop-at.invariant.machine

pub loop-at-preserved : goal.loop-at-preserved
loop-at-preserved g c =
    let meter = ap (λ (q : Processing). q.meter) c.in_ok-write_step.ensures.processor in
    record {
      machine = state_more _ _ _ _ _ c.loop-at.invariant.scenario c.loop-at.invariant.machine c.in_ok-write_step.ensures.state;
      step = refl;
      written = λ w. texts_more (g.T.StepWriter.text c.args.writer.now c.args.processor.now.scenario) c.args.processor.now.scenario c.args.low c.loop-at.at _ _ _ (omega arith) (c.loop-at.invariant.written w)
          (rw (c.loop-at.invariant.scenario, c.loop-at.invariant.machine) at (c.in_ok-write_step.ensures.written w));
      failures = c.in_ok-write_step.ensures.failures ∙ c.loop-at.invariant.failures;
      scenario = ap (λ (q : Processing). q.scenario) c.in_ok-write_step.ensures.processor ∙ c.loop-at.invariant.scenario;
      metered = omega (arith, c.loop-at.invariant.metered, meter);
      least = omega (arith, c.loop-at.invariant.least, meter);
      most = omega (arith, c.loop-at.invariant.most, meter);
    }

pub returns-in_err-write_step : goal.returns-in_err-write_step
returns-in_err-write_step g c =
    let meter = ap (λ (q : Processing). q.meter) c.in_err-write_step.ensures.processor in
    let r = err_from_is_err_and c.from_residual.result c.from_residual.ensures.1 in
    record {
      written = λ w. rw r.1 (texts_part (g.T.StepWriter.text c.args.writer.now c.args.processor.now.scenario) c.args.processor.now.scenario c.args.low c.loop-at.at c.args.high _ _ _ (omega arith)
          (omega arith) (c.loop-at.invariant.written w) (rw (c.loop-at.invariant.scenario, c.loop-at.invariant.machine) at (c.in_err-write_step.ensures.written w)));
      failures = rw r.1 (c.in_err-write_step.ensures.failures ∙ ap one_more c.loop-at.invariant.failures);
      gone = record {
        scenario = ap (λ (q : Processing). q.scenario) c.in_err-write_step.ensures.processor ∙ c.loop-at.invariant.scenario;
        metered = omega (arith, c.loop-at.invariant.metered, meter);
        least = omega (arith, c.loop-at.invariant.least, meter);
        most = omega (arith, c.loop-at.invariant.most, meter);
      };
      stands = state_more _ _ _ _ _ c.loop-at.invariant.scenario c.loop-at.invariant.machine c.in_err-write_step.ensures.state;
      within = omega arith;
      all = rw r.1 tt;
    }
