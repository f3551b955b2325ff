use Rattle.std.proofs.Common.{◌≡◌, ◌≤◌, ◌+◌, ◌-◌, ◌*◌}
use Rattle.differ.specs.MainSteps.{first_step, parts}
use Rattle.differ.specs.Windows.{IsFull, side_of}
use Rattle.differ.proofs.side.first_step.Given as goal

abbrev pub invariant-loop : goal.invariant-loop
invariant-loop l = record {
  scenario : l.one.scenario ≡ l.fn.one.scenario;
  other_scenario : l.other.scenario ≡ l.fn.other.scenario;
  meter : l.one.meter ≤ l.fn.one.meter + l.here.done;
  other_meter : l.other.meter ≤ l.fn.other.meter + l.there.done;
  full : IsFull l.fn.one.scenario l.steps l.here;
  other_full : IsFull l.fn.other.scenario l.steps l.there;
  left : first_step l.fn.one.scenario l.fn.other.scenario l.steps
      ≡ parts (2 * l.steps - l.counter) (side_of l.fn.one.scenario l.steps l.here) (side_of l.fn.other.scenario l.steps l.there);
}
