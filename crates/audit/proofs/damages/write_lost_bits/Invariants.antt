use Rattle.std.proofs.Common.{◌≡◌, ◌++◌, true}
use Rattle.audit.specs.Damages.{lost_text}
use Rattle.audit.proofs.PartTexts.{front}
use Rattle.audit.proofs.damages.write_lost_bits.Given as goal

abbrev pub invariant-loop-number : goal.invariant-loop-number
invariant-loop-number g l = record {
  written : g.W.Write.told ≡ true → g.W.Write.written l.out
      ≡ g.W.Write.written l.initial.out ++ front (lost_text l.image l.turned l.bank) l.number;
  failures : g.W.Write.failures l.out ≡ g.W.Write.failures l.initial.out;
}
