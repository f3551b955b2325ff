use Rattle.std.proofs.Common.{◌≡◌, ◌≤◌, ◌++◌, true, length}
use Rattle.std.specs.List.{flat_map}
use Rattle.audit.specs.Parities.{wrong_at, parity_line}
use Rattle.audit.proofs.PartTexts.{front}
use Rattle.audit.proofs.parities.write_bank.Given as goal

abbrev pub invariant-loop-number : goal.invariant-loop-number
invariant-loop-number g l = record {
  count : l.count ≡ length (front (wrong_at l.image l.bank) l.number);
  few : l.count ≤ l.number;
  written : g.W.Write.told ≡ true → g.W.Write.written l.out
      ≡ g.W.Write.written l.initial.out ++ flat_map (parity_line l.image) (front (wrong_at l.image l.bank) l.number);
  failures : g.W.Write.failures l.out ≡ g.W.Write.failures l.initial.out;
}
