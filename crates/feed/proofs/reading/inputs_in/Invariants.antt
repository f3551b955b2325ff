use Rattle.std.proofs.Common.{◌+◌, ◌≤◌, length}
use Rattle.feed.specs.Feed.{most_bytes, statements}
use Rattle.feed.specs.Kept.{AreGathered}
use Rattle.feed.proofs.LineSteps.{AreLeft}
use Rattle.feed.proofs.reading.inputs_in.Given as goal

abbrev pub invariant-loop-first : goal.invariant-loop-first
invariant-loop-first l = record {
  left : AreLeft (statements l.text) l.gathered.plain.items l.gathered.sources.items l.gathered.line (statements l.rest);
  gathered : AreGathered l.gathered.plain.items l.gathered.sources.items l.gathered.line;
  lines : l.gathered.line + length l.rest ≤ most_bytes + 1;
}

abbrev pub decreases-loop-first : goal.decreases-loop-first
decreases-loop-first l = length l.rest
