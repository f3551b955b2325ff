use Rattle.std.proofs.Common.{◌≡◌, true}
use Rattle.bound.specs.Bounds.{AreApart}
use Rattle.bound.specs.Inside.Searches.{AreOf, is_in}
use Rattle.bound.proofs.Whole.{FirstLeadOn}
use Rattle.bound.proofs.graph.Graph.explore.Given as goal

abbrev pub invariant-loop-from : goal.invariant-loop-from
invariant-loop-from l = record {
  are : AreOf l.rope l.kept l.routine l.self.sites.items;
  apart : AreApart l.self.sites.items;
  first : is_in l.self.sites.items l.routine ≡ true;
  done : FirstLeadOn l.rope l.kept l.known l.self.sites.items l.from;
}
