use Rattle.std.proofs.Common.{◌≡◌, ◌∙◌, ◌+◌, None, Option, ap, arith, sym}
use Rattle.cpu.specs.declared.output.Output.{Output}
use Rattle.feed.specs.Merged.{due}
use Rattle.cpu.specs.State.{State}
use Rattle.cpu.proofs.SilentLaws.{few_at, out_next, silent_more, silent_then, state_next}
use Rattle.cpu.proofs.StepLaws.{takes_in_turn}
use Rattle.cpu.proofs.processor.Processor.run_silent.Goals as goal

pub step_silent-requires-clause-few : goal.step_silent-requires-clause-few
step_silent-requires-clause-few c =
    few_at c.args.self.now.scenario c.loop-at.at c.loop-at.machine c.loop-at.invariant.stands (omega arith)

pub returns-in-Some-clause-state : goal.returns-in-Some-clause-state
returns-in-Some-clause-state c =
    state_next c.args.self.now.scenario c.loop-at.at c.loop-at.machine _ _ c.loop-at.invariant.stands c.step_silent.ensures

pub returns-in-Some-clause-put : goal.returns-in-Some-clause-put
returns-in-Some-clause-put c = (
  omega (arith, c.loop-at.invariant.low),
  (λ k low high. c.loop-at.invariant.silent k low (omega (arith, high))),
  sym c.in-Some.is ∙ out_next c.args.self.now.scenario c.loop-at.at c.loop-at.machine _ _ c.loop-at.invariant.stands c.step_silent.ensures,
)

pub run_plain-at-requires-clause-stands : goal.run_plain-at-requires-clause-stands
run_plain-at-requires-clause-stands c =
    state_next c.args.self.now.scenario c.loop-at.at c.loop-at.machine _ _ c.loop-at.invariant.stands c.step_silent.ensures

pub run_plain-at-requires-clause-silent : goal.run_plain-at-requires-clause-silent
run_plain-at-requires-clause-silent c = λ cycles before.
    let p = c.args.self.now.scenario in
    let m = c.loop-at.machine in
    let none_due : due p.inputs m.taken m.cycles ≡ None =
    rw c.loop-at.invariant.taken (c.requires.silent m.cycles (omega (arith, c.cycles.ensures, c.if-cycles-silent.true))) in
    let taken = ap (λ (q : State × Option Output). q.0.taken) c.step_silent.ensures ∙ (takes_in_turn p m).none none_due
    ∙ c.loop-at.invariant.taken in
    rw taken (c.requires.silent cycles before)

pub loop-at-preserved : goal.loop-at-preserved
loop-at-preserved c =
    let p = c.args.self.now.scenario in
    let m = c.loop-at.machine in
    let to = c.run_plain-at.result in
    let none_due : due p.inputs m.taken m.cycles ≡ None =
    rw c.loop-at.invariant.taken (c.requires.silent m.cycles (omega (arith, c.cycles.ensures, c.if-cycles-silent.true))) in
    let taken = ap (λ (q : State × Option Output). q.0.taken) c.step_silent.ensures ∙ (takes_in_turn p m).none none_due
    ∙ c.loop-at.invariant.taken in
    let one = silent_more p c.args.done c.loop-at.at c.loop-at.invariant.silent
    (sym (out_next p c.loop-at.at m _ _ c.loop-at.invariant.stands c.step_silent.ensures) ∙ c.in_default.is) in
    record {
      low = omega (arith, c.loop-at.invariant.low, c.run_plain-at.ensures.past);
      high = c.run_plain-at.ensures.within;
      stands = c.run_plain-at.ensures.state;
      taken = c.run_plain-at.ensures.taken ∙ taken;
      silent = silent_then p c.args.done (c.loop-at.at + 1) to one c.run_plain-at.ensures.none;
    }
