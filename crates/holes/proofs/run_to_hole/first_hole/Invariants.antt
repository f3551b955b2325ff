use Rattle.std.proofs.Common.{◌≡◌, ◌≤◌, ◌+◌, None}
use Rattle.cpu.specs.Run.{run}
use Rattle.holes.specs.HoleRuns.{first_hole}
use Rattle.holes.proofs.run_to_hole.first_hole.Given as goal

abbrev pub invariant-loop-done : goal.invariant-loop-done
invariant-loop-done l = record {
  scenario : l.processor.scenario ≡ l.fn.processor.scenario;
  meter : l.processor.meter ≤ l.fn.processor.meter + l.done;
  state : l.machine ≡ run l.fn.processor.scenario l.done;
  none : first_hole l.fn.processor.scenario l.other l.done ≡ None;
}
