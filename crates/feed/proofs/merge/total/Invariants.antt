use Rattle.std.proofs.Common.{◌≡◌, ◌≤◌, ◌*◌, sum, take}
use Rattle.feed.proofs.merge.total.Given as goal

abbrev pub invariant-loop-count : goal.invariant-loop-count
invariant-loop-count l = record { so_far : l.total ≡ sum (take l.count-index l.counts); few : l.total ≤ l.count-index * 4294967295 }
