use Rattle.std.proofs.Common.{◌≡◌, ◌++◌, true}
use Rattle.audit.proofs.PartTexts.{front}
use Rattle.certain.specs.Accounts.{account_line}
use Rattle.certain.proofs.accounts.write_accounts.Given as goal

abbrev pub invariant-loop-bank : goal.invariant-loop-bank
invariant-loop-bank g l = record {
  written : g.W.Write.told ≡ true → g.W.Write.written l.out
      ≡ g.W.Write.written l.initial.out ++ front (account_line l.uncertain l.words l.other l.new) l.bank;
  failures : g.W.Write.failures l.out ≡ g.W.Write.failures l.initial.out;
}
