use Rattle.std.proofs.Common.{◌≡◌, ◌++◌, true}
use Rattle.audit.proofs.PartTexts.{front}
use Rattle.debugger.proofs.Standings.{row_at}
use Rattle.debugger.proofs.standing.write_rows.Given as goal

abbrev pub invariant-loop-index : goal.invariant-loop-index
invariant-loop-index g l = record {
  written : g.W.Write.told ≡ true → g.W.Write.written l.out
      ≡ g.W.Write.written l.initial.out ++ front (row_at l.kind l.symbols l.rows l.processor.scenario l.machine l.place) l.index;
  failures : g.W.Write.failures l.out ≡ g.W.Write.failures l.initial.out;
}
