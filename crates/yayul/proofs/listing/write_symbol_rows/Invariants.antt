use Rattle.std.proofs.Common.{◌≡◌, true, drop}
use Rattle.std.specs.List.{flat_map}
use Rattle.yayul.specs.Listing.{symbol_row}
use Rattle.words.proofs.Writing.{SoFar}
use Rattle.yayul.proofs.listing.write_symbol_rows.Given as goal

abbrev pub invariant-loop-index : goal.invariant-loop-index
invariant-loop-index g l = record {
  written : g.W.Write.told ≡ true → SoFar (g.W.Write.written l.initial.writer) (g.W.Write.written l.writer)
      (flat_map symbol_row l.symbols) (flat_map symbol_row (drop l.index l.symbols));
  failures : g.W.Write.failures l.writer ≡ g.W.Write.failures l.initial.writer;
}
