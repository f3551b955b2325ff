use Rattle.std.proofs.Common.{◌≡◌, ◌-◌, ◌≤◌}
use Rattle.cpu.specs.Run.{run}
use Rattle.cpu.specs.Silent.{IsSilent}
use Rattle.cpu.proofs.processor.Processor.run_silent.Given as goal

abbrev pub invariant-loop-at : goal.invariant-loop-at
invariant-loop-at l = record {
  low : l.done ≤ l.at;
  high : l.at ≤ l.stop;
  stands : l.machine ≡ run l.self.scenario l.at;
  taken : l.machine.taken ≡ l.initial.machine.taken;
  silent : IsSilent l.self.scenario l.done l.at;
}

abbrev pub decreases-loop-at : goal.decreases-loop-at
decreases-loop-at l = l.stop - l.at
