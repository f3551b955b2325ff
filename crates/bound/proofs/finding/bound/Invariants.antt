use Rattle.std.proofs.Common.{◌+◌, ◌*◌, ◌≤◌, All, length}
use Rattle.bound.specs.Bounds.{AreCountedOf, Uses}
use Rattle.bound.specs.Inside.Checks.{AreBounds}
use Rattle.bound.specs.Inside.Searches.{IsChain}
use Rattle.bound.proofs.Apart.{ArePartsOf, sites_of}
use Rattle.bound.proofs.finding.bound.Given as goal

abbrev pub invariant-loop : goal.invariant-loop
invariant-loop l = record {
  bounds : AreBounds l.rope l.kept l.limits l.known.items;
  chain : IsChain l.rope l.kept l.routine l.begun.items;
  loops : AreCountedOf l.rope l.kept l.routine l.loops.items;
  used : All (λ q. Uses l.rope l.kept l.routine q) (sites_of l.known.items);
  parts : ArePartsOf l.known.items l.begun.items;
  count : l.counter ≤ 2 * length l.known.items + length l.begun.items;
}
