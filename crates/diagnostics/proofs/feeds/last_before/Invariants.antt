use Rattle.std.proofs.Common.{◌≡◌, ◌+◌, drop, map}
use Rattle.diagnostics.specs.FeedReport.{last_before}
use Rattle.diagnostics.proofs.feeds.last_before.Given as goal

abbrev pub invariant-loop-index : goal.invariant-loop-index
invariant-loop-index l = last_before l.end (l.index + 1) l.last (map (λ t. t.now) (drop l.index l.texts))
    ≡ last_before l.end 1 0 (map (λ t. t.now) l.texts)
