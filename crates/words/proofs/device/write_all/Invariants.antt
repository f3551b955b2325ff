use Rattle.std.proofs.Common.{◌≡◌, ◌≤◌, ◌-◌, ◌++◌, true, length, take}
use Rattle.words.proofs.device.write_all.Given as goal

abbrev pub invariant-loop-done : goal.invariant-loop-done
invariant-loop-done g l = record {
  within : l.done ≤ length l.text;
  written : g.W.Write.told ≡ true → g.W.Write.written l.out ≡ g.W.Write.written l.initial.out ++ take l.done l.text;
  failures : g.W.Write.failures l.out ≡ g.W.Write.failures l.initial.out;
}

abbrev pub decreases-loop-done : goal.decreases-loop-done
decreases-loop-done g l = length l.text - l.done
