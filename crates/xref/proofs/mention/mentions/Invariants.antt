use Rattle.std.proofs.Common.{◌≡◌, ◌≤◌, ◌+◌, ◌++◌, length, map}
use Rattle.agc_text.specs.Lines.{lines}
use Rattle.yayul.specs.Readings.{parts_for}
use Rattle.xref.specs.Xref.{mentions, mentions_from, told}
use Rattle.xref.proofs.mention.mentions.Given as goal

abbrev pub invariant-loop-index : goal.invariant-loop-index
invariant-loop-index l = record {
  short : length l.rest + l.index ≤ length l.source;
  left : map told l.found.items ++ mentions_from (l.index + 1) (map (parts_for l.language) (lines l.rest)) ≡ mentions l.language l.source;
}
