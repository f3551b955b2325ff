use Rattle.feed.specs.Heads.{head, IsLeastUpTo}
use Rattle.feed.proofs.merge.next_at.Given as goal

abbrev pub invariant-loop-index : goal.invariant-loop-index
invariant-loop-index l = IsLeastUpTo l.index (head l.plain l.sources l.taken l.counts) l.next
