use Rattle.std.proofs.Common.{◌≡◌, ◌++◌, true}
use Rattle.audit.specs.WordLines.{extracode_at}
use Rattle.audit.proofs.PartTexts.{front}
use Rattle.audit.proofs.by_bank.write_words_of.Given as goal

abbrev pub invariant-loop-number : goal.invariant-loop-number
invariant-loop-number g l = record {
  extra : l.extra ≡ extracode_at l.rope l.bank l.number;
  written : g.W.Write.told ≡ true → g.W.Write.written l.out
      ≡ g.W.Write.written l.initial.out ++ front (g.T.WordText.text l.text l.rope l.bank) l.number;
  failures : g.W.Write.failures l.out ≡ g.W.Write.failures l.initial.out;
}
