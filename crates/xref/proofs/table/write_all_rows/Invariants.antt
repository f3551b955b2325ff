use Rattle.std.proofs.Common.{◌≡◌, true, map, drop}
use Rattle.xref.specs.Xref.{rows_in, told}
use Rattle.words.proofs.Writing.{SoFar}
use Rattle.xref.proofs.table.write_all_rows.Given as goal

abbrev pub invariant-loop-index : goal.invariant-loop-index
invariant-loop-index g l = record {
  written : g.W.Write.told ≡ true → SoFar (g.W.Write.written l.initial.out) (g.W.Write.written l.out)
      (rows_in (map told l.mentions) (map told l.mentions)) (rows_in (map told l.mentions) (map told (drop l.index l.mentions)));
  failures : g.W.Write.failures l.out ≡ g.W.Write.failures l.initial.out;
}
