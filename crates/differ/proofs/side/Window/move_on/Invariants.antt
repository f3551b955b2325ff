use Rattle.std.proofs.Common.{◌≡◌, ◌≤◌, ◌+◌, ◌-◌}
use Rattle.differ.specs.MainSteps.{moved}
use Rattle.differ.specs.Windows.{IsFull, side_of}
use Rattle.differ.proofs.side.Window.move_on.Given as goal

abbrev pub invariant-loop : goal.invariant-loop
invariant-loop l = record {
  scenario : l.processor.scenario ≡ l.fn.processor.scenario;
  meter : l.processor.meter + l.fn.self.done ≤ l.fn.processor.meter + l.self.done;
  full : IsFull l.fn.processor.scenario l.steps l.self;
  left : moved l.count (side_of l.fn.processor.scenario l.steps l.fn.self)
      ≡ moved (l.count - l.counter) (side_of l.fn.processor.scenario l.steps l.self);
}
