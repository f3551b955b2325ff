use Rattle.std.proofs.Common.{◌≡◌, true, drop}
use Rattle.std.specs.List.{flat_map}
use Rattle.names.specs.Uses.{row_where}
use Rattle.words.proofs.Writing.{SoFar}
use Rattle.names.proofs.uses.write_rows.Given as goal

abbrev pub invariant-loop-mention : goal.invariant-loop-mention
invariant-loop-mention g l = record {
  written : g.W.Write.told ≡ true → SoFar (g.W.Write.written l.initial.out) (g.W.Write.written l.out)
      (flat_map (row_where l.name l.place) l.mentions) (flat_map (row_where l.name l.place) (drop l.mention-index l.mentions));
  failures : g.W.Write.failures l.out ≡ g.W.Write.failures l.initial.out;
}
