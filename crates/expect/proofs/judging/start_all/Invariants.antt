use Rattle.std.proofs.Common.{◌≡◌, ◌++◌, map, take, drop}
use Rattle.expect.specs.Watches.{started}
use Rattle.expect.proofs.judging.start_all.Given as goal

abbrev pub invariant-loop-watch : goal.invariant-loop-watch
invariant-loop-watch l =
    l.watches ≡ map (started l.processor.scenario l.machine) (take l.watch-index l.fn.watches) ++ drop l.watch-index l.fn.watches
