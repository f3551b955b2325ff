use Rattle.std.proofs.Common.{◌≡◌, ◌-◌, ◌≤◌}
use Rattle.cpu.specs.Run.{run}
use Rattle.cpu.specs.Silent.{IsSilent}
use Rattle.cpu.proofs.processor.Processor.run_on.Given as goal

abbrev pub invariant-loop-at : goal.invariant-loop-at
invariant-loop-at l = record {
  low : l.done ≤ l.at;
  high : l.at ≤ l.stop;
  same : l.self ≡ l.initial.self;
  stands : l.machine ≡ run l.initial.self.scenario l.at;
  silent : IsSilent l.initial.self.scenario l.done l.at;
}

abbrev pub decreases-loop-at : goal.decreases-loop-at
decreases-loop-at l = l.stop - l.at
