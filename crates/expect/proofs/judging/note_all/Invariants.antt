use Rattle.std.proofs.Common.{◌≡◌, ◌++◌, map, take, drop}
use Rattle.expect.specs.Watches.{noted}
use Rattle.expect.proofs.judging.note_all.Given as goal

abbrev pub invariant-loop-watch : goal.invariant-loop-watch
invariant-loop-watch l =
    l.watches ≡ map (noted l.processor.scenario l.machine l.put l.step) (take l.watch-index l.fn.watches) ++ drop l.watch-index l.fn.watches
