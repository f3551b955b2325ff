use Rattle.std.proofs.Common.{◌≡◌, ◌+◌, ◌^◌, ◌<◌, ◌≤◌}
use Rattle.cpu.specs.Run.{run}
use Rattle.replay.specs.Looked.{Looked}
use Rattle.replay.proofs.looking.look_on.Given as goal

abbrev pub invariant-loop : goal.invariant-loop
invariant-loop g l =
    let p = l.fn.processor.scenario in
    record {
      machine : l.shown.machine ≡ run p l.counter;
      looked : Looked g.L.Onlooker.sees p l.counter l.fn.onlooker l.onlooker;
      scenario : l.processor.scenario ≡ p;
      metered : l.processor.meter < 2 ^ 128;
      least : l.fn.processor.meter ≤ l.processor.meter;
      most : l.processor.meter ≤ l.fn.processor.meter + l.counter;
    }
