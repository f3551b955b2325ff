use Rattle.std.proofs.Common.{◌≡◌, ◌+◌, true, drop, map}
use Rattle.agc_text.specs.Lines.{lines}
use Rattle.yayul.specs.ListingObjects.{line_in}
use Rattle.yayul.specs.Inside.Representation.{shown_by_mark, rows_of}
use Rattle.words.proofs.Writing.{SoFar}
use Rattle.yayul.proofs.listing.write_rows.Given as goal

abbrev pub invariant-loop-mark : goal.invariant-loop-mark
invariant-loop-mark g l = record {
  number : l.number ≡ l.mark-index + 1;
  written : g.W.Write.told ≡ true → SoFar (g.W.Write.written l.initial.writer) (g.W.Write.written l.writer)
      (rows_of (line_in l.notation (g.M.Margin.text l.margin)) 1 l.rope (lines l.source) (map shown_by_mark l.marks))
      (rows_of (line_in l.notation (g.M.Margin.text l.margin)) l.number l.rope (lines l.rest)
      (map shown_by_mark (drop l.mark-index l.marks)));
  failures : g.W.Write.failures l.writer ≡ g.W.Write.failures l.initial.writer;
}
