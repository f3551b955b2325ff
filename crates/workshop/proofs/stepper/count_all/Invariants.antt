use Rattle.std.proofs.Common.{◌-◌, ◌%◌, ◌^◌, ◌≡◌, ◌≤◌, ◌<◌}
use Rattle.cpu.specs.Run.{run}
use Rattle.workshop.specs.Failures.{writer}
use Rattle.workshop.specs.Progress.{Tells}
use Rattle.workshop.proofs.stepper.count_all.Given as goal

abbrev pub invariant-loop-done : goal.invariant-loop-done
invariant-loop-done g l =
    let runs = l.fn.processor.scenario in
    let same = g.C.Counting.kept l.fn.counting in
    record {
      scenario : l.processor.scenario ≡ runs;
      kept : g.C.Counting.kept l.counting ≡ same;
      state : l.machine ≡ run runs l.done;
      stands : g.C.Counting.Stands same runs l.done l.counting;
      within : l.done ≤ l.steps;
      tells : Tells l.done (writer g.T.Write l.fn.progress) (writer g.T.Write l.progress) l.told;
      whole : l.done < l.steps → l.done % 2 ^ 20 ≡ 0;
    }

abbrev pub decreases-loop-done : goal.decreases-loop-done
decreases-loop-done g l = l.steps - l.done
