use Rattle.std.proofs.Common.{◌≡◌, ◌≤◌, ◌+◌, length, map, drop}
use Rattle.xref.specs.Xref.{definitions, told}
use Rattle.xref.proofs.table.count_definitions.Given as goal

abbrev pub invariant-loop-mention : goal.invariant-loop-mention
invariant-loop-mention l = record {
  few : l.count ≤ l.mention-index;
  left : l.count + length (definitions (map told (drop l.mention-index l.mentions))) ≡ length (definitions (map told l.mentions));
}
