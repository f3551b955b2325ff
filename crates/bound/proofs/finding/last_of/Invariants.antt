use Rattle.std.proofs.Common.{◌≡◌, drop}
use Rattle.bound.specs.Inside.Searches.{last_of}
use Rattle.bound.proofs.finding.last_of.Given as goal

abbrev pub invariant-loop-site : goal.invariant-loop-site
invariant-loop-site l = last_of l.last (drop l.site-index l.begun) ≡ last_of l.routine l.begun
