-- What is kept of a run, as its steps are made.
use Rattle.std.specs.Prelude.{◌≡◌, ℕ, ◌+◌, ◌-◌, ◌<◌, ◌≤◌, ◌^◌, Bool, List, length, get_or, set, Option, Some, None, is_some, unwrap_or}
use Rattle.std.specs.Prelude.{if◌then◌else◌}
use Rattle.cpu.specs.declared.next_step.NextStep.{NextStep}
use Rattle.cpu.specs.declared.next_step.NextStep.TheVariants.{Takes, Enters, Executes}
use Rattle.cpu.specs.Run.{run}
use Rattle.cpu.specs.State.{State, Scenario}
use Rattle.cover.specs.Tallies.{account_count, account_number}
use Rattle.notes.specs.RunNotes.{where_of}
use Rattle.access.specs.Levels.{entered_by, last_entered}
use Rattle.delays.specs.declared.call.Call.{Call}
use Rattle.delays.specs.declared.mark.Begun.{Begun}
use Rattle.delays.specs.declared.mark.Best.{Best}
use Rattle.delays.specs.declared.mark.Mark.{Mark}
use Rattle.delays.specs.Causes.{cause_by, causes}
use Rattle.delays.specs.Routines.{call_ended, call_in, call_over, in_progress, left_in, returned_in, with_call}
use Rattle.delays.specs.Spans.{asked, asked_in, cause_at, closed, is_closed, span_by, span_ended, span_rows, spent_more, spents, wait_by}
use Rattle.delays.specs.Spans.{wait_ended, wait_rows}
use Rattle.delays.specs.Stretches.{best_of, better, Event, no_best}

-- how many steps were made, their cycles, those of each cause, the interrupt that was entered last, since when each is asked for, the span
-- that goes on, the calls in progress, and a table for each kind of stretch
pub record Delayed : Type 0 where
  pub steps : ℕ
  pub cycles : ℕ
  pub spent : List ℕ
  pub last : ℕ
  pub waits : List (Option Mark)
  pub closed : Option Begun
  pub calls : List Call
  pub waited : List Best
  pub spans : List Best
  pub called : List Best

-- the moment after the steps that were made
abbrev pub mark_in : Delayed → ℕ → Mark
mark_in d cycles = record { step = d.steps; cycles = cycles; spent = d.spent }

-- an interrupt that is entered is asked for no more; one that is asked for is so since then, or since before
abbrev pub waits_left : NextStep → List (Option Mark) → List (Option Mark)
waits_left (Takes input) waits = waits
waits_left (Enters k) waits = set waits k None
waits_left (Executes f) waits = waits

abbrev pub waits_asked : Option ℕ → Mark → List (Option Mark) → List (Option Mark)
waits_asked None after waits = waits
waits_asked (Some k) after waits = if is_some (get_or waits k None) then waits else set waits k (Some after)

-- a span begins, where none goes on
abbrev pub begun_after : Bool → Begun → Option Begun → Option Begun
begun_after is_closed begun before = if is_closed then Some (unwrap_or before begun) else before

-- a table with a stretch more
abbrev pub put_down : List Best → Option Event → List Best
put_down table None = table
put_down table (Some event) = set table event.0 (better (get_or table event.0 no_best) event.1)

-- the row of a stretch is one of so many
abbrev pub IsWithin : ℕ → Option Event → Type 0
IsWithin rows None = Unit {0}
IsWithin rows (Some event) = event.0 < rows

-- the wait and the span that a step ends which leads from one state to another
abbrev pub wait_in : NextStep → State → Delayed → Option Event
wait_in step s d = wait_by step (λ k. get_or d.waits k None) (mark_in d s.cycles) (account_number (where_of step))

abbrev pub spent_in : NextStep → State → State → Delayed → List ℕ
spent_in step s t d = spent_more d.spent (cause_by step s d.last) (t.cycles - s.cycles)

abbrev pub after_in : NextStep → State → State → Delayed → Mark
after_in step s t d = record { step = d.steps + 1; cycles = t.cycles; spent = spent_in step s t d }

abbrev pub begun_in : NextStep → State → State → Delayed → Option Begun
begun_in step s t d = begun_after (is_closed t) (record { by = account_number (where_of step); mark = mark_in d s.cycles }) d.closed

abbrev pub span_in : NextStep → State → State → Delayed → Option Event
span_in step s t d = span_by (is_closed t) (begun_in step s t d) (after_in step s t d) (account_number (where_of step))

-- the calls in progress with the one that it makes, and the call that it ends
abbrev pub calls_in : NextStep → State → Delayed → List Call
calls_in step s d = with_call (call_in s step (mark_in d s.cycles)) d.calls

abbrev pub over_in : NextStep → State → State → Delayed → Option Event
over_in step s t d = call_over (returned_in t (calls_in step s d)) (after_in step s t d) (account_number (where_of step))

-- what is kept after it
unfoldable pub delayed_after : NextStep → State → State → Delayed → Delayed
delayed_after step s t d =
    record {
      steps = d.steps + 1;
      cycles = t.cycles;
      spent = spent_in step s t d;
      last = entered_by step d.last;
      waits = waits_asked (asked_in step s) (after_in step s t d) (waits_left step d.waits);
      closed = if is_closed t then begun_in step s t d else None;
      calls = left_in t (calls_in step s d);
      waited = put_down d.waited (wait_in step s d);
      spans = put_down d.spans (span_in step s t d);
      called = put_down d.called (over_in step s t d);
    }

-- counts may grow by a step
abbrev pub AreFew : List Best → ℕ → Type 0
AreFew table most = (row : ℕ) → (get_or table row no_best).count ≤ most

pub record IsSmall (d : Delayed) : Type 0 where
  pub steps : d.steps ≤ 2 ^ 62
  pub spent : (c : ℕ) → get_or d.spent c 0 ≤ 2 ^ 62
  pub waited : AreFew d.waited (2 ^ 62)
  pub spans : AreFew d.spans (2 ^ 62)
  pub called : AreFew d.called (2 ^ 62)

-- a table holds the stretches that end in the first n steps
pub record Holds (f : ℕ → Option Event) (n rows : ℕ) (table : List Best) : Type 0 where
  pub each : length table ≡ rows
  pub bests : (row : ℕ) → get_or table row no_best ≡ best_of f n row

-- what is kept is of the first n steps of a run
pub record Measures (scenario : Scenario) (n : ℕ) (d : Delayed) : Type 0 where
  pub steps : d.steps ≡ n
  pub cycles : d.cycles ≡ (run scenario n).cycles
  pub spent : d.spent ≡ spents scenario n
  pub last : d.last ≡ last_entered scenario n
  pub places : length d.waits ≡ wait_rows
  pub waits : (k : ℕ) → k < wait_rows → get_or d.waits k None ≡ asked scenario k n
  pub closed : d.closed ≡ closed scenario n
  pub calls : d.calls ≡ in_progress scenario n
  pub waited : Holds (wait_ended scenario) n wait_rows d.waited
  pub spans : Holds (span_ended scenario) n span_rows d.spans
  pub called : Holds (call_ended scenario) n account_count d.called
  pub known : (t : ℕ) → t < n → cause_at scenario t < causes
