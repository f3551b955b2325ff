use Rattle.std.proofs.Common.{◌≡◌}
use Rattle.align.specs.AlignLines.{stand_free}
use Rattle.align.proofs.lines.stand_free.Given as goal

abbrev pub invariant-loop-more : goal.invariant-loop-more
invariant-loop-more l = l.free ≡ stand_free l.pairs l.here l.place l.more
