use Rattle.std.proofs.Common.{◌≡◌, ◌++◌, true}
use Rattle.audit.proofs.PartTexts.{front}
use Rattle.audit.proofs.by_bank.write_banks.Given as goal

abbrev pub invariant-loop-bank : goal.invariant-loop-bank
invariant-loop-bank g l = record {
  written : g.W.Write.told ≡ true → g.W.Write.written l.out
      ≡ g.W.Write.written l.initial.out ++ front (g.T.BankText.text l.text l.rope) l.bank;
  failures : g.W.Write.failures l.out ≡ g.W.Write.failures l.initial.out;
}
