use Rattle.std.proofs.Common.{◌≡◌, ◌++◌, take}
use Rattle.bound.proofs.finding.add_loops.Given as goal

abbrev pub invariant-loop-counted : goal.invariant-loop-counted
invariant-loop-counted l = l.loops.items ≡ l.initial.loops.items ++ take l.counted-index l.more
