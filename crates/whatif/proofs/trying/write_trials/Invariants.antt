use Rattle.std.proofs.Common.{◌≡◌, ◌+◌, ◌≤◌, true, drop, None}
use Rattle.cpu.specs.Run.{run}
use Rattle.whatif.specs.Looked.{all_came, looked}
use Rattle.whatif.specs.Together.{number_of, told_together}
use Rattle.whatif.proofs.Rising.{IsOnTheWay}
use Rattle.words.proofs.Writing.{SoFar}
use Rattle.whatif.proofs.trying.write_trials.Given as goal

abbrev pub invariant-loop-trial : goal.invariant-loop-trial
invariant-loop-trial g l = record {
  written : g.W.Write.told ≡ true → SoFar (g.W.Write.written l.fn.out) (g.W.Write.written l.out)
      (told_together (g.S.Seen.joins_by l.told) (g.S.Seen.tells l.told) None
      (all_came (g.S.Seen.comes l.without.machine l.without.seen) g.S.Seen.begins (g.S.Seen.more l.beside) l.start.from
      l.fn.processor.scenario l.steps l.trials))
      (told_together (g.S.Seen.joins_by l.told) (g.S.Seen.tells l.told) l.pending
      (all_came (g.S.Seen.comes l.without.machine l.without.seen) g.S.Seen.begins (g.S.Seen.more l.beside) l.start.from
      l.fn.processor.scenario l.steps (drop l.trial-index l.trials)));
  failures : g.W.Write.failures l.out ≡ g.W.Write.failures l.fn.out;
  scenario : l.processor.scenario ≡ l.fn.processor.scenario;
  within : l.trunk.done ≤ l.steps;
  machine : l.trunk.machine ≡ run l.fn.processor.scenario l.trunk.done;
  from : l.trunk.from ≡ l.start.from;
  begun : l.trunk.from ≤ l.trunk.done;
  seen : l.trunk.seen ≡ looked g.S.Seen.begins (g.S.Seen.more l.beside) l.start.from l.fn.processor.scenario l.trunk.done;
  way : IsOnTheWay l.fn.processor.scenario l.trunk.done (drop l.trial-index l.trials);
  few : number_of l.pending ≤ l.trial-index;
  once : l.processor.meter + l.start.done ≤ l.fn.processor.meter + l.trunk.done;
  held : l.images.held ≡ 3;
}
