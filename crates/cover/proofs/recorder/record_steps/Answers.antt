use Rattle.std.proofs.Common.{◌≡◌, ◌+◌, ◌∙◌, arith, subst, sym}
use Rattle.cpu.specs.Run.{run}
use Rattle.cpu.specs.State.{Scenario}
use Rattle.cpu.proofs.Turns.{state_more}
use Rattle.cover.proofs.recorder.record_steps.Goals as goal

pub record-requires-clause-state : goal.record-requires-clause-state
record-requires-clause-state g c = rw c.loop-at.invariant.scenario c.loop-at.invariant.state

pub record-requires-clause-stands : goal.record-requires-clause-stands
record-requires-clause-stands g c = rw (c.loop-at.invariant.kept, c.loop-at.invariant.scenario) c.loop-at.invariant.stands

pub record_plain_steps-at-requires-clause-state : goal.record_plain_steps-at-requires-clause-state
record_plain_steps-at-requires-clause-state g c =
    let p = c.args.processor.now.scenario in
    subst (λ (q : Scenario). c.record.new.machine ≡ run q (c.loop-at.at + 1))
    (sym (c.record.ensures.scenario ∙ c.loop-at.invariant.scenario))
    (state_more p _ c.loop-at.at _ _ c.loop-at.invariant.scenario c.loop-at.invariant.state c.record.ensures.state)

pub record_plain_steps-at-requires-clause-stands : goal.record_plain_steps-at-requires-clause-stands
record_plain_steps-at-requires-clause-stands g c = rw (c.record.ensures.kept, c.record.ensures.scenario) c.record.ensures.stands

pub loop-at-preserved : goal.loop-at-preserved
loop-at-preserved g c =
    let before = c.loop-at.invariant in
    let after = c.record_plain_steps-at.ensures in
    let runs = c.record.ensures.scenario ∙ before.scenario in
    let same = c.record.ensures.kept ∙ before.kept in
    record {
      low = omega (arith, before.low, after.past);
      high = after.within;
      scenario = after.scenario ∙ runs;
      meter = omega (arith, before.meter, c.record.ensures.meter, after.meter);
      state = rw runs at after.state;
      kept = after.kept ∙ same;
      stands = rw (same, runs) at after.stands;
    }
