use Rattle.std.proofs.Common.{◌≡◌, ◌+◌, ◌-◌, ◌^◌, ◌<◌, ◌≤◌}
use Rattle.cpu.specs.Run.{run}
use Rattle.replay.specs.Images.{steps}
use Rattle.replay.specs.Spacing.{AreStaying, IsNeeded}
use Rattle.replay.specs.View.{AreOfRun}
use Rattle.replay.proofs.settling.settle.Given as goal

abbrev pub invariant-loop-at : goal.invariant-loop-at
invariant-loop-at g l =
    let p = l.fn.processor.scenario in
    let images = g.K.Keeper.images l.keeper in
    record {
      machine : l.machine ≡ run p (l.at - 1);
      staying : AreStaying l.at l.n (steps images);
      of_run : AreOfRun p images;
      needed : IsNeeded l.n l.at l.gap;
      gap : l.gap ≤ 2 ^ 40;
      scenario : l.processor.scenario ≡ p;
      metered : l.processor.meter < 2 ^ 128;
      least : l.fn.processor.meter ≤ l.processor.meter;
      most : l.processor.meter + l.base + 1 ≤ l.fn.processor.meter + l.at;
    }
