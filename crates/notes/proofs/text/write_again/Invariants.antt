use Rattle.std.proofs.Common.{◌≡◌, ◌≤◌, ◌+◌, ◌-◌, ◌++◌, true}
use Rattle.audit.proofs.PartTexts.{front}
use Rattle.cpu.specs.Run.{run}
use Rattle.notes.specs.Counted.{Left}
use Rattle.notes.specs.RunNotes.{step_text}
use Rattle.notes.proofs.text.write_again.Given as goal

abbrev pub invariant-loop-done : goal.invariant-loop-done
invariant-loop-done g l = record {
  scenario : l.processor.scenario ≡ l.fn.processor.scenario;
  state : l.machine ≡ run l.fn.processor.scenario l.done;
  left : Left l.fn.notebook.named l.fn.processor.scenario l.done l.steps l.notebook;
  written : g.W.Write.told ≡ true → g.W.Write.written l.out
      ≡ g.W.Write.written l.fn.out ++ front (step_text l.notation l.names l.fn.notebook.named l.fn.processor.scenario l.steps) l.done;
  failures : g.W.Write.failures l.out ≡ g.W.Write.failures l.fn.out;
  within : l.done ≤ l.last;
  few : l.last ≤ l.steps;
  meter : l.processor.meter ≤ l.fn.processor.meter + l.done;
}

abbrev pub decreases-loop-done : goal.decreases-loop-done
decreases-loop-done g l = l.last - l.done
