use Rattle.std.proofs.Common.{◌≡◌, ◌∙◌, ℕ, arith, subst}
use Rattle.cpu.proofs.Turns.{few_cycles, fits_after, state_more}
use Rattle.reach.specs.Executed.{HasExecuted}
use Rattle.reach.proofs.Executing.{executed_by}
use Rattle.reach.proofs.executed.Executed.make_steps.Goals as goal

pub step-requires-clause-cycles : goal.step-requires-clause-cycles
step-requires-clause-cycles c = few_cycles _ _ _ c.loop.invariant.state (omega (arith, c.loop-test.true))

pub step-requires-clause-fits : goal.step-requires-clause-fits
step-requires-clause-fits c = fits_after _ _ _ _ c.loop.invariant.scenario c.loop.invariant.state

pub loop-preserved : goal.loop-preserved
loop-preserved c = record {
  scenario = c.in_ok-step.ensures.scenario ∙ c.loop.invariant.scenario;
  state = state_more c.args.processor.now.scenario _ c.loop.counter _ _ c.loop.invariant.scenario c.loop.invariant.state
      c.in_ok-step.ensures.state;
  executed = executed_by c.args.processor.now.scenario _ c.loop.counter _ _ _ c.loop.invariant.scenario c.loop.invariant.state
      c.loop.invariant.executed c.in_ok-step.ensures.are c.in_ok-step.ensures.marks c.in_ok-step.ensures.order;
}

pub returns-clause-executed : goal.returns-clause-executed
returns-clause-executed c =
    let end : c.loop.counter ≡ c.args.stop = omega (arith, c.loop-test.false, c.loop.auto.counter-end c.requires.within) in
    subst (λ (n : ℕ). HasExecuted c.args.processor.now.scenario n c.loop.self) end c.loop.invariant.executed
