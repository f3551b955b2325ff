use Rattle.std.proofs.Common.{◌≡◌, ◌≤◌, ◌+◌, None, length}
use Rattle.cpu.specs.Run.{run, outs}
use Rattle.idle.specs.Idling.{checkpoint, first_idle}
use Rattle.idle.proofs.until.steps_until_idle.Given as goal

abbrev pub invariant-loop-done : goal.invariant-loop-done
invariant-loop-done l = record {
  scenario : l.processor.scenario ≡ l.fn.processor.scenario;
  meter : l.processor.meter ≤ l.fn.processor.meter + l.done;
  state : l.machine ≡ run l.fn.processor.scenario l.done;
  outputs : l.outputs ≡ length (outs l.fn.processor.scenario l.done);
  few : l.outputs ≤ l.done;
  kept : l.kept ≡ checkpoint l.fn.processor.scenario l.done;
  none : first_idle l.fn.processor.scenario l.done ≡ None;
}
