use Rattle.std.proofs.Common.{◌∙◌, true, false, refl, sym, arith}
use Rattle.cpu.proofs.RunLaws.{run-zero}
use Rattle.cpu.proofs.Turns.{few_cycles, fits_after, state_more}
use Rattle.holes.proofs.HoleTurns.{found_at, none_first, none_found, none_more}
use Rattle.holes.proofs.run_to_hole.first_hole.Goals as goal

pub loop-done-init : goal.loop-done-init
loop-done-init c = record {
  scenario = refl;
  meter = omega arith;
  state = c.start-machine.ensures.start ∙ sym (run-zero c.args.processor.now.scenario);
  none = none_first c.args.processor.now.scenario c.args.other.now;
}

pub fetches_hole-requires : goal.fetches_hole-requires
fetches_hole-requires c =
    fits_after c.args.processor.now.scenario _ c.loop-done.done _ c.loop-done.invariant.scenario c.loop-done.invariant.state

pub advance-requires-clause-cycles : goal.advance-requires-clause-cycles
advance-requires-clause-cycles c = few_cycles c.args.processor.now.scenario c.loop-done.done _ c.loop-done.invariant.state
    (omega (arith, c.loop-done-test.true, c.requires))

pub advance-requires-clause-fits : goal.advance-requires-clause-fits
advance-requires-clause-fits c =
    fits_after c.args.processor.now.scenario _ c.loop-done.done _ c.loop-done.invariant.scenario c.loop-done.invariant.state

pub returns-then-fetches_hole-clause-found : goal.returns-then-fetches_hole-clause-found
returns-then-fetches_hole-clause-found c =
    let i = c.loop-done.invariant in
    found_at c.args.processor.now.scenario _ c.args.other.now c.loop-done.done c.args.steps _ _ c.loop-done-test.true i.scenario i.state
    i.none (sym c.fetches_hole.ensures ∙ c.if-fetches_hole.true) c.next_place.ensures

pub loop-done-preserved : goal.loop-done-preserved
loop-done-preserved c =
    let i = c.loop-done.invariant in
    record {
      scenario = c.advance.ensures.scenario ∙ i.scenario;
      meter = omega (arith, i.meter, c.advance.ensures.meter);
      state = state_more c.args.processor.now.scenario _ c.loop-done.done _ _ i.scenario i.state c.advance.ensures.state;
      none = none_more c.args.processor.now.scenario _ c.args.other.now c.loop-done.done _ i.scenario i.state i.none
          (sym c.fetches_hole.ensures ∙ c.if-fetches_hole.false);
    }

pub returns-clause-found : goal.returns-clause-found
returns-clause-found c = none_found c.args.processor.now.scenario c.args.other.now c.loop-done.done c.args.steps (omega arith)
    c.loop-done.invariant.none
