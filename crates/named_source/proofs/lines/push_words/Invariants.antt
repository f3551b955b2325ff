use Rattle.std.proofs.Common.{◌≡◌, ◌++◌}
use Rattle.audit.proofs.PartTexts.{front}
use Rattle.audit.specs.WordLines.{extracode_at}
use Rattle.named_source.specs.NamedSources.{said_line}
use Rattle.named_source.proofs.lines.push_words.Given as goal

abbrev pub invariant-loop-number : goal.invariant-loop-number
invariant-loop-number l = record {
  extra : l.extra ≡ extracode_at l.rope l.bank l.number;
  items : l.out.items ≡ l.initial.out.items ++ front (said_line l.labels l.rope l.bank) l.number;
}
