use Rattle.std.proofs.Common.{◌≡◌, ◌+◌, ◌-◌, ◌*◌, ◌^◌, ◌≤◌, true, None}
use Rattle.cpu.specs.Run.{run}
use Rattle.whatif.specs.Here.{own_steps, trials_after}
use Rattle.whatif.specs.Looked.{all_came, looked}
use Rattle.whatif.specs.Together.{number_of, told_together}
use Rattle.words.proofs.Writing.{SoFar}
use Rattle.whatif.proofs.here.write_each.Given as goal

abbrev pub invariant-loop-further : goal.invariant-loop-further
invariant-loop-further g l = record {
  written : g.W.Write.told ≡ true → SoFar (g.W.Write.written l.fn.out) (g.W.Write.written l.out)
      (told_together (g.S.Seen.joins_by l.told) (g.S.Seen.tells l.told) None
      (all_came (g.S.Seen.comes l.without.machine l.without.seen) g.S.Seen.begins (g.S.Seen.more l.beside) l.fn.trunk.from
      l.fn.processor.scenario l.steps (trials_after l.fn.processor.scenario l.input l.first (l.more + 1))))
      (told_together (g.S.Seen.joins_by l.told) (g.S.Seen.tells l.told) l.pending
      (all_came (g.S.Seen.comes l.without.machine l.without.seen) g.S.Seen.begins (g.S.Seen.more l.beside) l.fn.trunk.from
      l.fn.processor.scenario l.steps
      (trials_after l.fn.processor.scenario l.input (l.first + l.further) ((l.more + 1) - l.further))));
  failures : g.W.Write.failures l.out ≡ g.W.Write.failures l.fn.out;
  scenario : l.processor.scenario ≡ l.fn.processor.scenario;
  order : l.trunk.done ≤ l.first + l.further;
  last : l.trunk.done ≤ l.first + l.more;
  machine : l.trunk.machine ≡ run l.fn.processor.scenario l.trunk.done;
  from : l.trunk.from ≡ l.fn.trunk.from;
  begun : l.trunk.from ≤ l.trunk.done;
  seen : l.trunk.seen ≡ looked g.S.Seen.begins (g.S.Seen.more l.beside) l.fn.trunk.from l.fn.processor.scenario l.trunk.done;
  few : number_of l.pending ≤ l.further;
  once : l.processor.meter + l.fn.trunk.done ≤ l.fn.processor.meter + l.trunk.done;
  own : l.own ≤ own_steps l.first l.further l.steps;
  small : l.own ≤ l.further * 2 ^ 40;
  held : l.images.held ≡ 2;
  most : l.images.most ≤ 3;
}
