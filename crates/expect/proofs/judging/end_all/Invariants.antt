use Rattle.std.proofs.Common.{◌≡◌, ◌++◌, map, take, drop}
use Rattle.expect.specs.Watches.{ended}
use Rattle.expect.proofs.judging.end_all.Given as goal

abbrev pub invariant-loop-watch : goal.invariant-loop-watch
invariant-loop-watch l =
    l.watches ≡ map (ended l.machine l.steps) (take l.watch-index l.fn.watches) ++ drop l.watch-index l.fn.watches
