use Rattle.std.proofs.Common.{◌≡◌, ◌≤◌, ◌^◌, ◌∙◌, ℕ, Option, ap, arith, sym}
use Rattle.cpu.specs.declared.output.Output.{Output}
use Rattle.cpu.specs.Next.{most_cycles, next}
use Rattle.cpu.specs.Run.{run}
use Rattle.cpu.specs.Silent.{IsSilent}
use Rattle.cpu.specs.State.{FitsRun, Processing, Scenario, State}
use Rattle.cpu.proofs.SilentLaws.{few_at, fits_at, out_next, silent_more, silent_then, state_next}
use Rattle.cpu.proofs.processor.Processor.run_on.Goals as goal

-- the step behind a step of the run
step_behind : (p q : Scenario) (n : ℕ) (m : State) (made : State × Option Output) → q ≡ p → m ≡ run q n → n ≤ 2 ^ 40
    → (m.cycles ≤ most_cycles → FitsRun q m → made ≡ next q m) → (m ≡ run p n) × (made ≡ next p m)
step_behind p q n m made same stands few step =
    let here : m ≡ run p n = stands ∙ ap (λ (s : Scenario). run s n) same in
    (here, step (few_at p n m here few) (rw same (fits_at p n m here)) ∙ ap (λ (s : Scenario). next s m) same)

pub returns-in-Some-step_uncounted-clause-state : goal.returns-in-Some-step_uncounted-clause-state
returns-in-Some-step_uncounted-clause-state c =
    let p = c.args.self.now.scenario in
    let same = ap (λ (q : Processing). q.scenario) c.loop-at.invariant.same in
    let step = step_behind p _ _ _ _ same c.run_silent-to.ensures.state (omega arith) c.step_uncounted.ensures.step in
    state_next p _ _ _ _ step.0 step.1

pub returns-in-Some-step_uncounted-clause-put : goal.returns-in-Some-step_uncounted-clause-put
returns-in-Some-step_uncounted-clause-put c =
    let p = c.args.self.now.scenario in
    let same = ap (λ (q : Processing). q.scenario) c.loop-at.invariant.same in
    let step = step_behind p _ _ _ _ same c.run_silent-to.ensures.state (omega arith) c.step_uncounted.ensures.step in
    sym c.in-Some-step_uncounted.is ∙ out_next p _ _ _ _ step.0 step.1

pub loop-at-preserved-in_default-step_uncounted : goal.loop-at-preserved-in_default-step_uncounted
loop-at-preserved-in_default-step_uncounted c =
    let p = c.args.self.now.scenario in
    let to = c.run_silent-to.result.0 in
    let same = ap (λ (q : Processing). q.scenario) c.loop-at.invariant.same in
    let step = step_behind p _ to _ _ same c.run_silent-to.ensures.state (omega arith) c.step_uncounted.ensures.step in
    let before : IsSilent p c.args.done to =
    silent_then p c.args.done c.loop-at.at to c.loop-at.invariant.silent (rw (sym same) (c.run_silent-to.ensures.none c.in_default.is)) in
    record {
      low = omega (arith, c.loop-at.invariant.low, c.run_silent-to.ensures.past);
      high = omega arith;
      same = c.step_uncounted.ensures.same ∙ c.loop-at.invariant.same;
      stands = state_next p to _ _ _ step.0 step.1;
      silent = silent_more p c.args.done to before (sym (out_next p to _ _ _ step.0 step.1) ∙ c.in_default-step_uncounted.is);
    }
