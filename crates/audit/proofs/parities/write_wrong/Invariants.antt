use Rattle.std.proofs.Common.{◌≡◌, ◌*◌, ◌≤◌, ◌++◌, true, length}
use Rattle.std.specs.List.{flat_map}
use Rattle.audit.specs.Parities.{wrong_in, parity_line}
use Rattle.audit.proofs.PartTexts.{front}
use Rattle.audit.proofs.parities.write_wrong.Given as goal

abbrev pub invariant-loop-bank : goal.invariant-loop-bank
invariant-loop-bank g l = record {
  count : l.count ≡ length (front (wrong_in l.image) l.bank);
  few : l.count ≤ 1024 * l.bank;
  written : g.W.Write.told ≡ true → g.W.Write.written l.out
      ≡ g.W.Write.written l.initial.out ++ flat_map (parity_line l.image) (front (wrong_in l.image) l.bank);
  failures : g.W.Write.failures l.out ≡ g.W.Write.failures l.initial.out;
}
