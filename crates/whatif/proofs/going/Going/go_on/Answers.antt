use Rattle.std.proofs.Common.{◌∙◌, arith}
use Rattle.cpu.proofs.Turns.{few_cycles, fits_after, state_more}
use Rattle.whatif.proofs.Steps.{looked_more}
use Rattle.whatif.proofs.going.Going.go_on.Goals as goal

pub look-requires-clause-cycles : goal.look-requires-clause-cycles
look-requires-clause-cycles g c = few_cycles _ _ _ c.loop.invariant.machine (omega (arith, c.loop-test.true, c.requires.few))

pub look-requires-clause-fits : goal.look-requires-clause-fits
look-requires-clause-fits g c = fits_after _ _ _ _ c.loop.invariant.scenario c.loop.invariant.machine

pub loop-preserved : goal.loop-preserved
loop-preserved g c = record {
  scenario = c.in_ok-look.ensures.scenario ∙ c.loop.invariant.scenario;
  machine = state_more c.args.processor.now.scenario _ c.loop.counter _ _ c.loop.invariant.scenario c.loop.invariant.machine
      c.in_ok-look.ensures.state;
  seen = looked_more g.S.Seen.begins (g.S.Seen.more c.args.beside.now) c.args.self.now.from c.args.processor.now.scenario _ c.loop.counter _ _ _
      (omega (arith, c.requires.begun)) c.loop.invariant.scenario c.loop.invariant.machine c.loop.invariant.seen
      c.in_ok-look.ensures.seen;
  from = c.loop.invariant.from;
  meter = omega (arith, c.loop.invariant.meter, c.in_ok-look.ensures.meter);
}
