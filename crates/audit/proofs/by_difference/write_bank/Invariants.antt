use Rattle.std.proofs.Common.{◌≡◌, ◌≤◌, ◌++◌, true, length}
use Rattle.std.specs.List.{flat_map}
use Rattle.audit.specs.WordLines.{extracode_at}
use Rattle.audit.specs.Differences.{differing_at}
use Rattle.audit.proofs.PartTexts.{front}
use Rattle.audit.proofs.by_difference.write_bank.Given as goal

abbrev pub invariant-loop-number : goal.invariant-loop-number
invariant-loop-number g l = record {
  old : l.extra.0 ≡ extracode_at l.old l.bank l.number;
  new : l.extra.1 ≡ extracode_at l.new l.bank l.number;
  count : l.count ≡ length (front (differing_at l.extent l.old l.new l.bank) l.number);
  few : l.count ≤ l.number;
  written : g.W.Write.told ≡ true → g.W.Write.written l.out
      ≡ g.W.Write.written l.initial.out ++ flat_map (g.T.DifferenceText.text l.text l.old l.new)
      (front (differing_at l.extent l.old l.new l.bank) l.number);
  failures : g.W.Write.failures l.out ≡ g.W.Write.failures l.initial.out;
}
