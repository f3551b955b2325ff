use Rattle.std.proofs.Common.{◌≡◌, take}
use Rattle.feed.proofs.list.copied_sources.Given as goal

abbrev pub invariant-loop-source : goal.invariant-loop-source
invariant-loop-source l = l.copy.items ≡ take l.source-index l.sources.items
