use Rattle.std.proofs.Common.{◌≡◌, true, drop}
use Rattle.std.specs.List.{flat_map}
use Rattle.names.specs.Uses.{symbol_rows}
use Rattle.words.proofs.Writing.{SoFar}
use Rattle.names.proofs.uses.write_names.Given as goal

abbrev pub invariant-loop-index : goal.invariant-loop-index
invariant-loop-index g l = record {
  written : g.W.Write.told ≡ true → SoFar (g.W.Write.written l.initial.out) (g.W.Write.written l.out)
      (flat_map (symbol_rows l.mentions) l.names) (flat_map (symbol_rows l.mentions) (drop l.index l.names));
  failures : g.W.Write.failures l.out ≡ g.W.Write.failures l.initial.out;
}
