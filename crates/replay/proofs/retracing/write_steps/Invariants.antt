use Rattle.std.proofs.Common.{◌≡◌, ◌+◌, ◌-◌, ◌^◌, ◌<◌, ◌≤◌, ◌++◌, true}
use Rattle.cpu.specs.Run.{run}
use Rattle.replay.specs.Retraced.{texts_after}
use Rattle.replay.proofs.retracing.write_steps.Given as goal

abbrev pub invariant-loop-at : goal.invariant-loop-at
invariant-loop-at g l =
    let p = l.fn.processor.scenario in
    record {
      machine : l.shown.machine ≡ run p l.at;
      step : l.shown.step ≡ l.at;
      written : g.W.Write.told ≡ true → g.W.Write.written l.out
          ≡ g.W.Write.written l.fn.out ++ texts_after (g.T.StepWriter.text l.writer p) p l.low (l.at - l.low);
      failures : g.W.Write.failures l.out ≡ g.W.Write.failures l.fn.out;
      scenario : l.processor.scenario ≡ p;
      metered : l.processor.meter < 2 ^ 128;
      least : l.fn.processor.meter ≤ l.processor.meter;
      most : l.processor.meter + l.low ≤ l.fn.processor.meter + l.at;
    }
