use Rattle.std.proofs.Common.{◌≡◌, ◌≤◌, ◌+◌, ◌-◌, ◌++◌, drop, true}
use Rattle.audit.proofs.PartTexts.{front}
use Rattle.cpu.specs.Run.{run}
use Rattle.notes.specs.Counted.{first_steps}
use Rattle.notes.specs.RunNotes.{step_text}
use Rattle.notes.proofs.text.write_listed.Given as goal

abbrev pub invariant-loop-first : goal.invariant-loop-first
invariant-loop-first g l = record {
  scenario : l.processor.scenario ≡ l.fn.processor.scenario;
  state : l.machine ≡ run l.fn.processor.scenario l.done;
  rest : first_steps l.notebook.named l.fn.processor.scenario l.done (l.steps - l.done) ≡ drop l.first-index l.firsts;
  written : g.W.Write.told ≡ true → g.W.Write.written l.out
      ≡ g.W.Write.written l.fn.out ++ front (step_text l.notation l.names l.notebook.named l.fn.processor.scenario l.steps) l.done;
  failures : g.W.Write.failures l.out ≡ g.W.Write.failures l.fn.out;
  within : l.done ≤ l.steps;
  meter : l.processor.meter ≤ l.fn.processor.meter + l.done;
}
