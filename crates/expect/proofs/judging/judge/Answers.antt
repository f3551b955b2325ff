use Rattle.std.proofs.Common.{◌≡◌, ◌∙◌, refl, sym, ap, arith}
use Rattle.cpu.specs.Run.{run}
use Rattle.cpu.proofs.RunLaws.{run-zero}
use Rattle.cpu.proofs.Turns.{few_cycles, fits_after, state_more}
use Rattle.expect.proofs.Watching.{few_watches, put_back, watches_end, watches_more}
use Rattle.expect.proofs.judging.judge.Goals as goal

pub loop-done-init : goal.loop-done-init
loop-done-init c = record {
  scenario = refl;
  state = c.requires.start ∙ sym (run-zero c.args.processor.now.scenario);
  watches = c.in_ok-watches.ensures;
  within = omega arith;
  meter = omega arith;
}

pub step_and_note-requires-clause-cycles : goal.step_and_note-requires-clause-cycles
step_and_note-requires-clause-cycles c = few_cycles _ _ _ c.loop-done.invariant.state (omega (arith, c.loop-done-test.true, c.requires.few))

pub step_and_note-requires-clause-fits : goal.step_and_note-requires-clause-fits
step_and_note-requires-clause-fits c = fits_after _ _ _ _ c.loop-done.invariant.scenario c.loop-done.invariant.state

pub step_and_note-requires-clause-few : goal.step_and_note-requires-clause-few
step_and_note-requires-clause-few c =
    few_watches c.args.processor.now.scenario c.loop-done.done _ c.args.claims.now (omega (arith, c.loop-done-test.true, c.requires.few))
    (c.deref_mut.ensures.value ∙ c.loop-done.invariant.watches)

pub loop-done-preserved : goal.loop-done-preserved
loop-done-preserved c = record {
  scenario = c.step_and_note.ensures.scenario ∙ c.loop-done.invariant.scenario;
  state = state_more c.args.processor.now.scenario _ c.loop-done.done _ _ c.loop-done.invariant.scenario c.loop-done.invariant.state
      c.step_and_note.ensures.state;
  watches = put_back _ c.loop-done.watches.items c.deref_mut.result.now c.step_and_note.new.watches c.loop-done.watches.len
      c.deref_mut.ensures.value c.deref_mut.ensures.len c.step_and_note.ensures.watches
      ∙ watches_more c.args.processor.now.scenario _ c.loop-done.done _ c.deref_mut.result.now _ c.args.claims.now
      c.loop-done.invariant.scenario c.loop-done.invariant.state
      (c.deref_mut.ensures.value ∙ c.loop-done.invariant.watches) c.step_and_note.ensures.watches;
  within = omega (arith, c.loop-done-test.true);
  meter = omega (arith, c.step_and_note.ensures.meter, c.loop-done.invariant.meter);
}

pub returns-clause-judged : goal.returns-clause-judged
returns-clause-judged c =
    let end : c.loop-done.done ≡ c.args.steps = omega (arith, c.loop-done-test.false, c.loop-done.invariant.within) in
    put_back _ c.loop-done.watches.items c.deref_mut-2.result.now c.end_all.new.watches c.loop-done.watches.len c.deref_mut-2.ensures.value
    c.deref_mut-2.ensures.len c.end_all.ensures
    ∙ watches_end c.args.processor.now.scenario c.args.steps c.loop-done.done _ c.deref_mut-2.result.now _ c.args.claims.now end
    c.loop-done.invariant.state
    (c.deref_mut-2.ensures.value ∙ c.loop-done.invariant.watches) c.end_all.ensures

pub returns-clause-end : goal.returns-clause-end
returns-clause-end c =
    let end : c.loop-done.done ≡ c.args.steps = omega (arith, c.loop-done-test.false, c.loop-done.invariant.within) in
    c.loop-done.invariant.state ∙ ap (run c.args.processor.now.scenario) end
