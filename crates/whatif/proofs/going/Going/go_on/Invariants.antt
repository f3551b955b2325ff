use Rattle.std.proofs.Common.{◌≡◌, ◌+◌, ◌≤◌}
use Rattle.cpu.specs.Run.{run}
use Rattle.whatif.specs.Looked.{looked}
use Rattle.whatif.proofs.going.Going.go_on.Given as goal

abbrev pub invariant-loop : goal.invariant-loop
invariant-loop g l = record {
  scenario : l.processor.scenario ≡ l.fn.processor.scenario;
  machine : l.self.machine ≡ run l.fn.processor.scenario l.counter;
  seen : l.self.seen ≡ looked g.S.Seen.begins (g.S.Seen.more l.beside) l.fn.self.from l.fn.processor.scenario l.counter;
  from : l.self.from ≡ l.fn.self.from;
  meter : l.processor.meter + l.fn.self.done ≤ l.fn.processor.meter + l.counter;
}
