use Rattle.std.proofs.Common.{◌≡◌, ◌+◌, ◌-◌, ◌≤◌, true, None}
use Rattle.cpu.specs.Run.{run}
use Rattle.whatif.specs.Here.{own_steps}
use Rattle.whatif.specs.Outcomes.{outcome}
use Rattle.whatif.specs.Restarts.{restart_telling, restarts_after}
use Rattle.whatif.specs.Spans.{spans_text}
use Rattle.whatif.specs.Together.{number_of}
use Rattle.words.proofs.Writing.{SoFar}
use Rattle.whatif.proofs.restart.write_restarts.Given as goal

abbrev pub invariant-loop-further : goal.invariant-loop-further
invariant-loop-further g l = record {
  written : g.W.Write.told ≡ true → SoFar (g.W.Write.written l.fn.out) (g.W.Write.written l.out)
      (spans_text (restart_telling l.more) None (restarts_after l.without.seen.others
      l.without.machine.cells l.fn.trunk.from l.fn.processor.scenario l.steps l.fn.trunk.done (l.more + 1)))
      (spans_text (restart_telling l.more) l.pending (restarts_after l.without.seen.others
      l.without.machine.cells l.fn.trunk.from l.fn.processor.scenario l.steps (l.fn.trunk.done + l.further)
      ((l.more + 1) - l.further)));
  failures : g.W.Write.failures l.out ≡ g.W.Write.failures l.fn.out;
  scenario : l.processor.scenario ≡ l.fn.processor.scenario;
  order : l.trunk.done ≤ l.fn.trunk.done + l.further;
  last : l.trunk.done ≤ l.fn.trunk.done + l.more;
  machine : l.trunk.machine ≡ run l.fn.processor.scenario l.trunk.done;
  from : l.trunk.from ≡ l.fn.trunk.from;
  begun : l.trunk.from ≤ l.trunk.done;
  seen : l.trunk.seen ≡ outcome l.without.seen.others l.fn.trunk.from l.fn.processor.scenario l.trunk.done;
  few : number_of l.pending ≤ l.further;
  once : l.processor.meter + l.fn.trunk.done ≤ l.fn.processor.meter
      + (l.trunk.done + own_steps l.fn.trunk.done l.further l.steps);
  held : l.images.held ≡ 2;
  most : l.images.most ≤ 3;
}
