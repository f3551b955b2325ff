use Rattle.std.proofs.Common.{◌≡◌, ◌≤◌, ◌+◌, ◌-◌}
use Rattle.cpu.specs.Run.{run}
use Rattle.differ.specs.Outputs.{first_apart, first_output, puts}
use Rattle.differ.proofs.outputs.first_output.Given as goal

abbrev pub invariant-loop-number : goal.invariant-loop-number
invariant-loop-number l = record {
  scenario : l.one.scenario ≡ l.fn.one.scenario;
  other_scenario : l.other.scenario ≡ l.fn.other.scenario;
  meter : l.one.meter ≤ l.fn.one.meter + l.here.done;
  other_meter : l.other.meter ≤ l.fn.other.meter + l.there.done;
  within : l.here.done ≤ l.steps;
  other_within : l.there.done ≤ l.steps;
  past : l.number ≤ l.here.done;
  other_past : l.number ≤ l.there.done;
  here : l.here.machine ≡ run l.fn.one.scenario l.here.done;
  there : l.there.machine ≡ run l.fn.other.scenario l.there.done;
  left : first_output l.fn.one.scenario l.fn.other.scenario l.steps
      ≡ first_apart (l.number + 1) (puts l.fn.one.scenario l.here.done (l.steps - l.here.done))
      (puts l.fn.other.scenario l.there.done (l.steps - l.there.done));
}
