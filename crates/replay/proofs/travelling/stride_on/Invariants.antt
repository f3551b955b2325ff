use Rattle.std.specs.Int.{◌∣◌}
use Rattle.std.proofs.Common.{◌≡◌, ◌+◌, ◌-◌, ◌^◌, ◌<◌, ◌≤◌, ◌⊎◌, false, true}
use Rattle.cpu.specs.Run.{run}
use Rattle.replay.specs.Images.{steps}
use Rattle.replay.specs.View.{AreOfRun, counted_by}
use Rattle.replay.specs.Walked.{Walked}
use Rattle.replay.proofs.StridingLemmas.{AreOnGrid}
use Rattle.replay.proofs.travelling.stride_on.Given as goal

abbrev pub invariant-loop-at : goal.invariant-loop-at
invariant-loop-at g l =
    let p = l.fn.processor.scenario in
    record {
      from : l.low ≤ l.at;
      most_steps : l.at ≤ l.high;
      some : l.high ≤ l.at ⊎ (l.ended ≡ true) → l.low < l.at;
      grid : l.at < l.high → l.ended ≡ false → 2 ^ 14 ∣ l.at;
      machine : l.machine ≡ run p l.at;
      kept : AreOnGrid l.low l.at (steps (g.K.Keeper.images l.keeper));
      of_run : AreOfRun p (g.K.Keeper.images l.keeper);
      walked : Walked g.S.Stepper.sees p l.low l.at l.ended l.fn.stepper l.stepper;
      scenario : l.processor.scenario ≡ p;
      metered : l.processor.meter < 2 ^ 128;
      least : counted_by (l.at - l.low) l.fn.processor.meter ≤ l.processor.meter;
      most : l.processor.meter + l.low ≤ l.fn.processor.meter + l.at;
    }

abbrev pub decreases-loop-at : goal.decreases-loop-at
decreases-loop-at g l = l.high - l.at
