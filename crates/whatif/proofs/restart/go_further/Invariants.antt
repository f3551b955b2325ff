use Rattle.std.proofs.Common.{◌≡◌, ◌+◌, ◌*◌, ◌≤◌}
use Rattle.cpu.specs.State.{FitsRun}
use Rattle.whatif.specs.Restarts.{on_from, outcome_on}
use Rattle.whatif.proofs.restart.go_further.Given as goal

abbrev pub invariant-loop : goal.invariant-loop
invariant-loop l = record {
  scenario : l.processor.scenario ≡ l.fn.processor.scenario;
  machine : l.machine ≡ on_from l.fn.processor.scenario l.fn.machine l.counter;
  answer : l.answer ≡ outcome_on l.base.others l.fn.processor.scenario l.fn.machine l.fn.answer l.counter;
  fits : FitsRun l.fn.processor.scenario l.machine;
  cycles : l.machine.cycles ≤ l.fn.machine.cycles + 6 * l.counter;
  meter : l.processor.meter ≤ l.fn.processor.meter + l.counter;
}
