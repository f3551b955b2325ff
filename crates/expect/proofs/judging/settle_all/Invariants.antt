use Rattle.std.proofs.Common.{◌≡◌, ◌++◌, map, take, drop}
use Rattle.expect.specs.Facts.{facts_of}
use Rattle.expect.specs.Watches.{settled}
use Rattle.expect.proofs.judging.settle_all.Given as goal

abbrev pub invariant-loop-watch : goal.invariant-loop-watch
invariant-loop-watch l =
    l.watches ≡ map (settled (facts_of l.known) l.machine l.steps) (take l.watch-index l.fn.watches) ++ drop l.watch-index l.fn.watches
