use Rattle.std.proofs.Common.{◌∙◌, arith}
use Rattle.whatif.proofs.Rising.{before_more}
use Rattle.cpu.proofs.Turns.{few_cycles, fits_after, state_more}
use Rattle.whatif.proofs.Steps.{looked_more}
use Rattle.whatif.proofs.going.Going.go_to.Goals as goal

pub look-requires-clause-cycles : goal.look-requires-clause-cycles
look-requires-clause-cycles g c = few_cycles _ _ _ c.loop-done.invariant.machine
    (omega (arith, c.loop-done.invariant.within, c.requires.few))

pub look-requires-clause-fits : goal.look-requires-clause-fits
look-requires-clause-fits g c = fits_after _ _ _ _ c.loop-done.invariant.scenario c.loop-done.invariant.machine

pub loop-done-preserved : goal.loop-done-preserved
loop-done-preserved g c = record {
  scenario = c.in_ok-look.ensures.scenario ∙ c.loop-done.invariant.scenario;
  within = omega (arith, c.loop-done.invariant.within);
  machine = state_more c.args.processor.now.scenario _ c.loop-done.done _ _ c.loop-done.invariant.scenario c.loop-done.invariant.machine
      c.in_ok-look.ensures.state;
  seen = looked_more g.S.Seen.begins (g.S.Seen.more c.args.beside.now) c.args.self.now.from c.args.processor.now.scenario _ c.loop-done.done _ _ _
      (omega (arith, c.requires.begun, c.loop-done.invariant.begun)) c.loop-done.invariant.scenario c.loop-done.invariant.machine
      c.loop-done.invariant.seen c.in_ok-look.ensures.seen;
  before = before_more c.args.processor.now.scenario c.loop-done.done c.args.cycle _ c.loop-done.invariant.machine (omega arith)
      c.loop-done.invariant.before;
  meter = omega (arith, c.loop-done.invariant.meter, c.in_ok-look.ensures.meter);
  same = c.loop-done.invariant.same;
  from = c.loop-done.invariant.from;
  begun = omega (arith, c.loop-done.invariant.begun);
}
