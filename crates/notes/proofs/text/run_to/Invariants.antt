use Rattle.std.proofs.Common.{◌≡◌, ◌≤◌, ◌+◌, ◌-◌}
use Rattle.cpu.specs.Run.{run}
use Rattle.notes.proofs.text.run_to.Given as goal

abbrev pub invariant-loop-at : goal.invariant-loop-at
invariant-loop-at l = record {
  scenario : l.processor.scenario ≡ l.fn.processor.scenario;
  meter : l.processor.meter + l.done ≤ l.fn.processor.meter + l.at;
  within : l.at ≤ l.stop;
  stands : l.machine ≡ run l.fn.processor.scenario l.at;
}

abbrev pub decreases-loop-at : goal.decreases-loop-at
decreases-loop-at l = l.stop - l.at
