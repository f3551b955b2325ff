use Rattle.std.proofs.Common.{◌≡◌, true}
use Rattle.feed.specs.Heads.{head, IsLeastUpTo}
use Rattle.feed.proofs.CountTests.{AreEndedUpTo}
use Rattle.feed.proofs.merge.look.Given as goal

abbrev pub invariant-loop-index : goal.invariant-loop-index
invariant-loop-index l = record {
  same : l.sources ≡ l.fn.sources;
  next : IsLeastUpTo l.index (head l.plain l.fn.sources l.taken l.counts) l.looked.next;
  last : l.looked.stand ≡ true → AreEndedUpTo l.index l.plain l.fn.sources l.taken l.counts l.looked.last;
}
