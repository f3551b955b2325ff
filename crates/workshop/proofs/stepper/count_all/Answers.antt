use Rattle.std.proofs.Common.{◌≡◌, ◌∙◌, refl, sym, ap, arith}
use Rattle.cpu.specs.State.{State}
use Rattle.cpu.proofs.RunLaws.{run-zero}
use Rattle.workshop.proofs.Telling.{tells_at_start, tells_more}
use Rattle.workshop.proofs.stepper.count_all.Goals as goal

pub loop-done-init : goal.loop-done-init
loop-done-init g c = record {
  scenario = refl;
  kept = refl;
  state = c.start-machine.ensures.start ∙ sym (run-zero c.args.processor.now.scenario);
  stands = c.requires.none;
  within = omega arith;
  tells = tells_at_start _;
  whole = λ more. refl;
}

pub count-requires-clause-state : goal.count-requires-clause-state
count-requires-clause-state g c = rw c.loop-done.invariant.scenario c.loop-done.invariant.state

pub count-requires-clause-stands : goal.count-requires-clause-stands
count-requires-clause-stands g c = rw (c.loop-done.invariant.kept, c.loop-done.invariant.scenario) c.loop-done.invariant.stands

pub loop-done-preserved : goal.loop-done-preserved
loop-done-preserved g c =
    let before = c.loop-done.invariant in
    let made = c.count.ensures in
    let whole = before.whole c.loop-done-test.true in
    record {
      scenario = made.scenario ∙ before.scenario;
      kept = made.kept ∙ before.kept;
      state = rw before.scenario at made.state;
      stands = rw (before.kept, before.scenario) at made.stands;
      within = omega arith;
      tells = tells_more c.loop-done.done c.min-end.result _ _ _ _ _ whole (omega arith) (omega arith) refl before.tells
          c.tell-told.ensures;
      whole = λ more. omega (arith, whole, more);
    }

pub returns-clause-kept : goal.returns-clause-kept
returns-clause-kept g c = c.loop-done.invariant.kept

pub returns-clause-stands : goal.returns-clause-stands
returns-clause-stands g c =
    let end : c.loop-done.done ≡ c.args.steps = omega (arith, c.loop-done-test.false, c.loop-done.invariant.within) in
    rw end at c.loop-done.invariant.stands

pub returns-clause-cycles : goal.returns-clause-cycles
returns-clause-cycles g c =
    let end : c.loop-done.done ≡ c.args.steps = omega (arith, c.loop-done-test.false, c.loop-done.invariant.within) in
    c.cycles.ensures ∙ ap (λ (s : State). s.cycles) (rw end at c.loop-done.invariant.state)

pub returns-clause-progress : goal.returns-clause-progress
returns-clause-progress g c =
    let end : c.loop-done.done ≡ c.args.steps = omega (arith, c.loop-done-test.false, c.loop-done.invariant.within) in
    record { told = c.loop-done.told; tells = rw (sym end) c.loop-done.invariant.tells }
