use Rattle.std.proofs.Common.{◌≡◌, ◌≤◌, ◌+◌, ◌-◌, length}
use Rattle.cpu.specs.Run.{run}
use Rattle.differ.specs.Windows.{AreWithin, side_of}
use Rattle.differ.proofs.side.Window.fill.Given as goal

abbrev pub invariant-loop-number : goal.invariant-loop-number
invariant-loop-number l = record {
  scenario : l.processor.scenario ≡ l.fn.processor.scenario;
  meter : l.processor.meter + l.fn.self.done ≤ l.fn.processor.meter + l.self.done;
  within : l.self.done ≤ l.steps;
  machine : l.self.machine ≡ run l.fn.processor.scenario l.self.done;
  known : AreWithin l.steps l.self.ahead.items;
  short : length l.self.ahead.items ≤ 4;
  side : side_of l.fn.processor.scenario l.steps l.self ≡ side_of l.fn.processor.scenario l.steps l.fn.self;
}

abbrev pub decreases-loop-number : goal.decreases-loop-number
decreases-loop-number l = l.steps - l.self.done
