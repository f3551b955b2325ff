use Rattle.std.proofs.Common.{◌≡◌, ◌≤◌, drop, true}
use Rattle.debugger.specs.Standing.{found_from, found_text}
use Rattle.debugger.specs.LeftToWrite.{LeftToWrite}
use Rattle.debugger.proofs.standing.find.Given as goal

abbrev pub invariant-loop-index : goal.invariant-loop-index
invariant-loop-index g l = record {
  few : l.found ≤ l.index;
  failures : g.W.Write.failures l.out ≡ g.W.Write.failures l.fn.out;
  written : g.W.Write.told ≡ true → LeftToWrite (found_text l.symbols l.beginning) (g.W.Write.written l.fn.out) (g.W.Write.written l.out)
      (found_from l.found l.beginning (drop l.index l.symbols));
}
