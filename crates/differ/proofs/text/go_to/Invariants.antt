use Rattle.std.proofs.Common.{◌≡◌, ◌≤◌, ◌+◌, ◌-◌}
use Rattle.cpu.specs.Run.{run}
use Rattle.differ.proofs.text.go_to.Given as goal

abbrev pub invariant-loop-done : goal.invariant-loop-done
invariant-loop-done l = record {
  scenario : l.processor.scenario ≡ l.fn.processor.scenario;
  meter : l.processor.meter ≤ l.fn.processor.meter + l.done;
  within : l.done ≤ l.steps;
  stands : l.machine ≡ run l.fn.processor.scenario l.done;
}

abbrev pub decreases-loop-done : goal.decreases-loop-done
decreases-loop-done l = l.steps - l.done
