use Rattle.std.proofs.Common.{◌≡◌, ◌+◌, ◌-◌, ◌≤◌, false}
use Rattle.cpu.proofs.Bursts.{HasCome}
use Rattle.cpu.proofs.processor.Processor.run_plain.Given as goal

abbrev pub invariant-loop-left : goal.invariant-loop-left
invariant-loop-left l = record {
  low : l.done + l.left ≤ l.end;
  come : HasCome l.self.scenario l.initial.machine l.done (l.end - l.left) l.machine;
  basic : l.machine.extra ≡ false;
}

abbrev pub decreases-loop-left : goal.decreases-loop-left
decreases-loop-left l = l.left
