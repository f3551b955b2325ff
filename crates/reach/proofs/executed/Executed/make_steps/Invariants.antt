use Rattle.std.proofs.Common.{◌≡◌}
use Rattle.cpu.specs.Run.{run}
use Rattle.reach.specs.Executed.{HasExecuted}
use Rattle.reach.proofs.executed.Executed.make_steps.Given as goal

abbrev pub invariant-loop : goal.invariant-loop
invariant-loop l = record {
  scenario : l.processor.scenario ≡ l.initial.processor.scenario;
  state : l.machine ≡ run l.initial.processor.scenario l.counter;
  executed : HasExecuted l.initial.processor.scenario l.counter l.self;
}
