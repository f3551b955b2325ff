use Rattle.std.proofs.Common.{◌≡◌, ◌-◌, ◌≤◌}
use Rattle.cpu.specs.Bursts.{IsQuiet}
use Rattle.cpu.specs.Run.{run}
use Rattle.cpu.specs.Silent.{IsSilent}
use Rattle.cover.proofs.recorder.record_quiet_steps.Given as goal

abbrev pub invariant-loop-at : goal.invariant-loop-at
invariant-loop-at g l =
    let same = g.R.Recorder.kept l.fn.recorder in
    record {
      low : l.done ≤ l.at;
      high : l.at ≤ l.end;
      quiet : IsQuiet l.processor.scenario l.machine (l.end - l.at);
      state : l.machine ≡ run l.processor.scenario l.at;
      silent : IsSilent l.processor.scenario l.done l.at;
      kept : g.R.Recorder.kept l.recorder ≡ same;
      stands : g.R.Recorder.Stands same l.processor.scenario l.at l.recorder;
    }

abbrev pub decreases-loop-at : goal.decreases-loop-at
decreases-loop-at g l = l.end - l.at
