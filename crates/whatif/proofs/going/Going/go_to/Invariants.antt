use Rattle.std.proofs.Common.{◌≡◌, ◌+◌, ◌-◌, ◌≤◌}
use Rattle.cpu.specs.Run.{run}
use Rattle.whatif.specs.Looked.{looked}
use Rattle.whatif.specs.Trials.{IsBefore}
use Rattle.whatif.proofs.going.Going.go_to.Given as goal

abbrev pub invariant-loop-done : goal.invariant-loop-done
invariant-loop-done g l = record {
  scenario : l.processor.scenario ≡ l.fn.processor.scenario;
  within : l.done ≤ l.steps;
  machine : l.self.machine ≡ run l.fn.processor.scenario l.done;
  seen : l.self.seen ≡ looked g.S.Seen.begins (g.S.Seen.more l.beside) l.fn.self.from l.fn.processor.scenario l.done;
  before : IsBefore l.fn.processor.scenario l.done l.cycle;
  meter : l.processor.meter + l.fn.self.done ≤ l.fn.processor.meter + l.done;
  same : l.self.done ≡ l.fn.self.done;
  from : l.self.from ≡ l.fn.self.from;
  begun : l.fn.self.done ≤ l.done;
}

abbrev pub decreases-loop-done : goal.decreases-loop-done
decreases-loop-done g l = l.steps - l.done
