-- A claim that is watched while a run is made, step by step.
use Rattle.std.specs.Prelude.{ℕ, ◌+◌, ◌≤◌, ◌^◌, List, map, Option, Some, None, if◌then◌else◌}
use Rattle.std.specs.List.{All}
use Rattle.std.specs.Option.{option_or}
use Rattle.cpu.specs.declared.output.Output.{Output}
use Rattle.cpu.specs.State.{State, Scenario}
use Rattle.cpu.specs.Run.{run}
use Rattle.expect.specs.Claims.{broken, broken_at_start, broken_by, call_at, called, counts, failure, fate, lacking, seen}
use Rattle.expect.specs.Facts.{Facts, misses}
use Rattle.expect.specs.declared.claim.Claim.{Claim}
use Rattle.expect.specs.declared.claim.Stated.{Stated}
use Rattle.expect.specs.declared.watch.Failure.{Failure}
use Rattle.expect.specs.declared.watch.Watch.{Watch}

-- before the run
abbrev pub unseen : Stated → Watch
unseen stated = record { stated = stated; seen = 0; call = None; failure = None }

-- the start of the run
abbrev pub started : Scenario → State → Watch → Watch
started scenario s watch =
    record {
      stated = watch.stated;
      seen = if counts scenario watch.stated.claim s None then 1 else 0;
      call = called scenario watch.stated.claim s None;
      failure = broken_at_start scenario watch.stated.claim s;
    }

-- a step more, after which the machine stands so
abbrev pub noted : Scenario → State → Option Output → ℕ → Watch → Watch
noted scenario s put step watch =
    record {
      stated = watch.stated;
      seen = watch.seen + (if counts scenario watch.stated.claim s put then 1 else 0);
      call = called scenario watch.stated.claim s watch.call;
      failure = option_or watch.failure (broken_by scenario watch.stated.claim watch.seen watch.call step s put);
    }

-- the end of n steps
abbrev pub ended : State → ℕ → Watch → Watch
ended s n watch =
    record {
      stated = watch.stated;
      seen = watch.seen;
      call = watch.call;
      failure = option_or watch.failure
          (lacking watch.stated.claim watch.seen n s);
    }

-- what is held of a claim after n steps, and at their end
abbrev pub watched : Scenario → ℕ → Stated → Watch
watched scenario n stated =
    record {
      stated = stated;
      seen = seen scenario stated.claim n;
      call = call_at scenario stated.claim n;
      failure = broken scenario
          stated.claim n;
    }

abbrev pub judged : Scenario → ℕ → Stated → Watch
judged scenario n stated =
    record {
      stated = stated;
      seen = seen scenario stated.claim n;
      call = call_at scenario stated.claim n;
      failure = fate scenario n
          stated.claim;
    }

-- what is known of n steps beside them, at whose end the machine stands so, where that does not bear a claim out
abbrev pub unmet : Facts → ℕ → State → Claim → Option Failure
unmet facts n s claim = if misses facts claim then Some (failure n s None) else None

abbrev pub settled : Facts → State → ℕ → Watch → Watch
settled facts s n watch =
    record {
      stated = watch.stated;
      seen = watch.seen;
      call = watch.call;
      failure = option_or watch.failure (unmet facts n s watch.stated.claim);
    }

-- the verdicts on claims of n steps, of which something is known
abbrev pub all_judged : Facts → Scenario → ℕ → List Stated → List Watch
all_judged facts scenario n claims = map (settled facts (run scenario n) n) (map (judged scenario n) claims)

-- what they have counted may grow
abbrev pub AreFew : List Watch → Type 0
AreFew watches = All (λ watch. watch.seen ≤ 2 ^ 62) watches
