use Rattle.std.proofs.Common.{◌≡◌, ◌++◌, true}
use Rattle.audit.specs.Damages.{bank_in_module}
use Rattle.audit.proofs.PartTexts.{front}
use Rattle.audit.proofs.lost_modules.write_banks.Given as goal

abbrev pub invariant-loop-number : goal.invariant-loop-number
invariant-loop-number g l = record {
  written : g.W.Write.told ≡ true → g.W.Write.written l.out
      ≡ g.W.Write.written l.initial.out ++ front (bank_in_module l.image l.turned l.nth) l.number;
  failures : g.W.Write.failures l.out ≡ g.W.Write.failures l.initial.out;
}
