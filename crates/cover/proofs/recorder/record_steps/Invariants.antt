use Rattle.std.proofs.Common.{◌≡◌, ◌+◌, ◌-◌, ◌≤◌}
use Rattle.cpu.specs.Run.{run}
use Rattle.cover.proofs.recorder.record_steps.Given as goal

abbrev pub invariant-loop-at : goal.invariant-loop-at
invariant-loop-at g l =
    let runs = l.fn.processor.scenario in
    let same = g.P.Recorder.kept l.fn.profiler in
    record {
      low : l.done ≤ l.at;
      high : l.at ≤ l.stop;
      scenario : l.processor.scenario ≡ runs;
      meter : l.processor.meter + l.done ≤ l.fn.processor.meter + l.at;
      state : l.machine ≡ run runs l.at;
      kept : g.P.Recorder.kept l.profiler ≡ same;
      stands : g.P.Recorder.Stands same runs l.at l.profiler;
    }

abbrev pub decreases-loop-at : goal.decreases-loop-at
decreases-loop-at g l = l.stop - l.at
