use Rattle.std.proofs.Common.{◌≡◌, ℕ, ◌+◌, ◌-◌, ◌^◌, ◌<◌, ◌≤◌, Option}
use Rattle.cpu.specs.Run.{run}
use Rattle.replay.specs.Found.{FindsAs, first_found}
use Rattle.replay.proofs.searching.search_on.Given as goal

abbrev pub invariant-loop-at : goal.invariant-loop-at
invariant-loop-at g l =
    let p = l.fn.processor.scenario in
    record {
      machine : l.shown.machine ≡ run p l.at;
      scenario : l.processor.scenario ≡ p;
      metered : l.processor.meter < 2 ^ 128;
      least : l.fn.processor.meter ≤ l.processor.meter;
      most : l.processor.meter + l.low ≤ l.fn.processor.meter + l.at;
      later : (find : ℕ → Option ℕ) → FindsAs (g.P.Probe.answers l.probe) p l.high find
          → first_found find l.low (l.high - l.low) ≡ first_found find l.at (l.high - l.at);
    }
