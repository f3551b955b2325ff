use Rattle.std.proofs.Common.{◌≡◌, ◌*◌, ◌≤◌}
use Rattle.audit.specs.BankFacts.{counted_before, even_words_before}
use Rattle.audit.proofs.bank_facts.parities_in_all.Given as goal

abbrev pub invariant-loop-number : goal.invariant-loop-number
invariant-loop-number l = record {
  counted : l.counted ≡ counted_before l.image l.number;
  even : l.even ≡ even_words_before l.image l.number;
  counted_few : l.counted ≤ 1024 * l.number;
  even_few : l.even ≤ 1024 * l.number;
}
