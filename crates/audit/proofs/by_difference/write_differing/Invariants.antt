use Rattle.std.proofs.Common.{◌≡◌, ◌*◌, ◌≤◌, ◌++◌, true, length}
use Rattle.std.specs.List.{flat_map}
use Rattle.audit.specs.Differences.{differing_in}
use Rattle.audit.proofs.PartTexts.{front}
use Rattle.audit.proofs.by_difference.write_differing.Given as goal

abbrev pub invariant-loop-bank : goal.invariant-loop-bank
invariant-loop-bank g l = record {
  count : l.count ≡ length (front (differing_in l.extent l.old l.new) l.bank);
  few : l.count ≤ 1024 * l.bank;
  written : g.W.Write.told ≡ true → g.W.Write.written l.out
      ≡ g.W.Write.written l.initial.out ++ flat_map (g.T.DifferenceText.text l.text l.old l.new)
      (front (differing_in l.extent l.old l.new) l.bank);
  failures : g.W.Write.failures l.out ≡ g.W.Write.failures l.initial.out;
}
