use Rattle.std.proofs.Common.{◌≡◌, ◌≤◌, ◌+◌, ◌-◌, None}
use Rattle.cpu.specs.Run.{run}
use Rattle.differ.specs.States.{apart_from, cell_count, first_cell, first_state}
use Rattle.differ.proofs.states.first_state.Given as goal

abbrev pub invariant-loop-done : goal.invariant-loop-done
invariant-loop-done l = record {
  scenario : l.one.scenario ≡ l.fn.one.scenario;
  other_scenario : l.other.scenario ≡ l.fn.other.scenario;
  meter : l.one.meter ≤ l.fn.one.meter + l.done;
  other_meter : l.other.meter ≤ l.fn.other.meter + l.done;
  here : l.here ≡ run l.fn.one.scenario l.done;
  there : l.there ≡ run l.fn.other.scenario l.done;
  none : first_cell l.here.cells l.there.cells cell_count ≡ None;
  left : first_state l.fn.one.scenario l.fn.other.scenario l.steps
      ≡ apart_from l.fn.one.scenario l.fn.other.scenario l.done (l.steps - l.done);
}
