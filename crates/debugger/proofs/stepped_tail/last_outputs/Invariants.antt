use Rattle.std.proofs.Common.{◌≡◌, ◌≤◌, ◌+◌, ◌-◌, ◌*◌, length}
use Rattle.debugger.specs.SteppedTail.{outputs_by_step}
use Rattle.debugger.proofs.stepped_tail.last_outputs.Given as goal

abbrev pub invariant-loop-found : goal.invariant-loop-found
invariant-loop-found g l = record {
  within : l.first ≤ l.session.n;
  few : l.found ≤ l.fn.count;
  told : length (outputs_by_step l.fn.session.scenario l.first) + l.found ≡ length (outputs_by_step l.fn.session.scenario l.fn.session.n);
  scenario : l.session.scenario ≡ l.fn.session.scenario;
  steps : l.session.n ≡ l.fn.session.n;
  cost : l.session.meter ≤ l.fn.session.meter + 2 * l.found * l.fn.session.n;
}

abbrev pub decreases-loop-found : goal.decreases-loop-found
decreases-loop-found g l = l.fn.count - l.found
