use Rattle.std.proofs.Common.{◌≡◌, drop, map}
use Rattle.agc_text.specs.Lines.{lines}
use Rattle.yayul.specs.Named.{nothing_named}
use Rattle.yayul.specs.Inside.Names.{shown_named}
use Rattle.yayul.specs.Inside.Representation.{shown_by_mark}
use Rattle.yayul.proofs.named.NamedPlaces.of_lines.Given as goal

abbrev pub invariant-loop-mark : goal.invariant-loop-mark
invariant-loop-mark l = record {
  named : shown_named l.language l.symbols l.named (lines l.rest) (map shown_by_mark (drop l.mark-index l.marks))
      ≡ shown_named l.language l.symbols nothing_named (lines l.source) (map shown_by_mark l.marks);
}
