use Rattle.std.proofs.Common.{◌-◌, ◌+◌, ◌%◌, ◌^◌, ◌≡◌, ◌≤◌, ◌<◌, ◌++◌, true}
use Rattle.cpu.specs.Run.{run}
use Rattle.workshop.specs.Failures.{writer}
use Rattle.workshop.specs.Progress.{Tells}
use Rattle.workshop.proofs.stepper.run_all.Given as goal

abbrev pub invariant-loop-done : goal.invariant-loop-done
invariant-loop-done g l =
    let runs = l.fn.processor.scenario in
    let same = g.S.Stepper.kept l.fn.stepper in
    record {
      scenario : l.processor.scenario ≡ runs;
      kept : g.S.Stepper.kept l.stepper ≡ same;
      state : l.machine ≡ run runs l.done;
      stands : g.S.Stepper.Stands same runs l.done l.stepper;
      written : g.W.Write.told ≡ true
          → g.W.Write.written l.out ≡ g.W.Write.written l.fn.out ++ g.S.Stepper.text same runs l.done;
      failures : g.W.Write.failures l.out ≡ g.W.Write.failures l.fn.out;
      within : l.done ≤ l.steps;
      handed_on : g.W.Write.told ≡ true → 0 < l.done → g.W.Write.handed_on l.out ≡ g.W.Write.written l.out;
      tells : Tells l.done (writer g.T.Write l.fn.progress)
          (writer g.T.Write l.progress) l.told;
      whole : l.done < l.steps → l.done % 2 ^ 20 ≡ 0;
      meter : g.S.Stepper.metered ≡ true → l.processor.meter ≤ l.fn.processor.meter + l.done;
    }

abbrev pub decreases-loop-done : goal.decreases-loop-done
decreases-loop-done g l = l.steps - l.done

abbrev pub invariant-loop-done-2 : goal.invariant-loop-done-2
invariant-loop-done-2 g l =
    let runs = l.fn.processor.scenario in
    let same = g.S.Stepper.kept l.fn.stepper in
    record {
      scenario : l.processor.scenario ≡ runs;
      kept : g.S.Stepper.kept l.stepper ≡ same;
      state : l.machine ≡ run runs l.done;
      stands : g.S.Stepper.Stands same runs l.done l.stepper;
      written : g.W.Write.told ≡ true
          → g.W.Write.written l.out ≡ g.W.Write.written l.fn.out ++ g.S.Stepper.text same runs l.done;
      failures : g.W.Write.failures l.out ≡ g.W.Write.failures l.fn.out;
      within : l.done ≤ l.stop;
      further : l.initial.done ≤ l.done;
      meter : g.S.Stepper.metered ≡ true → l.processor.meter ≤ l.fn.processor.meter + l.done;
    }

abbrev pub decreases-loop-done-2 : goal.decreases-loop-done-2
decreases-loop-done-2 g l = l.stop - l.done
