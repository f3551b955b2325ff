use Rattle.std.proofs.Common.{◌≡◌, ◌+◌, ◌-◌, ◌^◌, ◌<◌, ◌≤◌, false}
use Rattle.cpu.specs.Run.{run}
use Rattle.replay.specs.View.{counted_by}
use Rattle.replay.specs.Walked.{Walked}
use Rattle.replay.proofs.watching.walk.Given as goal

abbrev pub invariant-loop-at : goal.invariant-loop-at
invariant-loop-at g l =
    let p = l.fn.processor.scenario in
    record {
      machine : l.machine ≡ run p l.at;
      walked : Walked g.S.Stepper.sees p l.low l.at false l.fn.stepper l.stepper;
      scenario : l.processor.scenario ≡ p;
      metered : l.processor.meter < 2 ^ 128;
      least : counted_by (l.at - l.low) l.fn.processor.meter ≤ l.processor.meter;
      most : l.processor.meter + l.low ≤ l.fn.processor.meter + l.at;
    }
