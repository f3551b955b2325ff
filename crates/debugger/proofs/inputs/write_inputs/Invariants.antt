use Rattle.std.proofs.Common.{◌≡◌, ◌≤◌, drop, map, true}
use Rattle.feed.specs.Merged.{plain_entry}
use Rattle.debugger.specs.Inputs.{lines_from}
use Rattle.debugger.specs.LeftToWrite.{LeftToWrite}
use Rattle.debugger.proofs.inputs.write_inputs.Given as goal

abbrev pub invariant-loop-input : goal.invariant-loop-input
invariant-loop-input g l = record {
  few : l.count ≤ l.input-index;
  failures : g.W.Write.failures l.out ≡ g.W.Write.failures l.fn.out;
  written : g.W.Write.told ≡ true → LeftToWrite (lines_from l.first 0 (map plain_entry l.plain)) (g.W.Write.written l.fn.out)
      (g.W.Write.written l.out) (lines_from l.first l.count (map plain_entry (drop l.input-index l.plain)));
}
