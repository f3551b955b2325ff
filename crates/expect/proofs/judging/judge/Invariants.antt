use Rattle.std.proofs.Common.{◌≡◌, ◌+◌, ◌-◌, ◌≤◌, map}
use Rattle.cpu.specs.Run.{run}
use Rattle.expect.specs.Watches.{watched}
use Rattle.expect.proofs.judging.judge.Given as goal

abbrev pub invariant-loop-done : goal.invariant-loop-done
invariant-loop-done l = record {
  scenario : l.processor.scenario ≡ l.fn.processor.scenario;
  state : l.machine ≡ run l.fn.processor.scenario l.done;
  watches : l.watches.items ≡ map (watched l.fn.processor.scenario l.done) l.claims;
  within : l.done ≤ l.steps;
  meter : l.processor.meter ≤ l.fn.processor.meter + l.done;
}

abbrev pub decreases-loop-done : goal.decreases-loop-done
decreases-loop-done l = l.steps - l.done
