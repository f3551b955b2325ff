use Rattle.std.proofs.Common.{◌∙◌, refl, arith}
use Rattle.whatif.proofs.Restarting.{cycles_on, fits_on, on_none, seen_none, seen_on, state_on}
use Rattle.whatif.proofs.restart.go_further.Goals as goal

pub loop-init : goal.loop-init
loop-init c = record {
  scenario = refl;
  machine = on_none c.args.processor.now.scenario c.args.machine.now;
  answer = seen_none c.args.base.now.others c.args.processor.now.scenario c.args.machine.now c.args.answer.now;
  fits = c.requires.fits;
  cycles = omega arith;
  meter = omega arith;
}

pub look-requires-clause-cycles : goal.look-requires-clause-cycles
look-requires-clause-cycles c = omega (arith, c.loop.invariant.cycles, c.requires.early, c.requires.few, c.loop-test.true)

pub look-requires-clause-fits : goal.look-requires-clause-fits
look-requires-clause-fits c = rw c.loop.invariant.scenario c.loop.invariant.fits

pub loop-preserved : goal.loop-preserved
loop-preserved c = record {
  scenario = c.in_ok-look.ensures.scenario ∙ c.loop.invariant.scenario;
  machine = state_on c.args.processor.now.scenario _ c.args.machine.now _ _ c.loop.counter c.loop.invariant.scenario
      c.loop.invariant.machine c.in_ok-look.ensures.state;
  answer = seen_on c.args.base.now.others c.args.processor.now.scenario _ c.args.machine.now _ c.args.answer.now _ _ c.loop.counter
      c.loop.invariant.scenario c.loop.invariant.machine c.loop.invariant.answer c.in_ok-look.ensures.seen;
  fits = fits_on c.args.processor.now.scenario _ _ _ c.loop.invariant.scenario c.in_ok-look.ensures.state c.loop.invariant.fits;
  cycles = cycles_on _ _ _ c.args.machine.now.cycles c.loop.counter c.in_ok-look.ensures.state c.loop.invariant.cycles;
  meter = omega (arith, c.loop.invariant.meter, c.in_ok-look.ensures.meter);
}
