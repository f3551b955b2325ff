use Rattle.std.proofs.Common.{◌≡◌, ◌≤◌, ◌+◌}
use Rattle.std.specs.Prelude.{IfSome}
use Rattle.cpu.specs.Run.{run}
use Rattle.differ.specs.Causes.{last_writer}
use Rattle.differ.proofs.causes.last_writer.Given as goal

abbrev pub invariant-loop-done : goal.invariant-loop-done
invariant-loop-done l = record {
  scenario : l.processor.scenario ≡ l.fn.processor.scenario;
  meter : l.processor.meter ≤ l.fn.processor.meter + l.done;
  machine : l.machine ≡ run l.fn.processor.scenario l.done;
  found : l.last ≡ last_writer l.fn.processor.scenario l.cell l.done;
  within : IfSome l.last (λ n. n ≤ l.done);
}
