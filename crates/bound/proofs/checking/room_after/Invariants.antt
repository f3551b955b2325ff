use Rattle.std.proofs.Common.{◌≡◌, drop}
use Rattle.bound.specs.Inside.Checks.{room_after}
use Rattle.bound.proofs.checking.room_after.Given as goal

abbrev pub invariant-loop-count : goal.invariant-loop-count
invariant-loop-count l = room_after (drop l.count-index l.counts) l.site l.left ≡ room_after l.counts l.site l.room
