use Rattle.std.proofs.Common.{◌≡◌, ◌≤◌, ◌++◌, true}
use Rattle.audit.specs.BankFacts.{count_before, mends}
use Rattle.audit.specs.Damages.{candidate_text}
use Rattle.audit.proofs.PartTexts.{front}
use Rattle.audit.proofs.wrong_words.write_candidates.Given as goal

abbrev pub invariant-loop-bit : goal.invariant-loop-bit
invariant-loop-bit g l = record {
  before : l.before ≡ count_before (mends l.image l.turned l.bank) l.bit;
  few : l.before ≤ l.bit;
  written : g.W.Write.told ≡ true → g.W.Write.written l.out
      ≡ g.W.Write.written l.initial.out ++ front (candidate_text l.image l.turned l.bank l.word) l.bit;
  failures : g.W.Write.failures l.out ≡ g.W.Write.failures l.initial.out;
}
