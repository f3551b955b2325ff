-- What is kept of a step that executes an instruction and makes no call, told by the state to which it leads, its account, its cause, and
-- the cycles before it. Only the contracts of this crate's parts stand on this.
use Rattle.std.specs.Prelude.{ℕ, ◌+◌, ◌-◌, List, Option, None, if◌then◌else◌}
use Rattle.cpu.specs.State.{State}
use Rattle.delays.specs.declared.mark.Begun.{Begun}
use Rattle.delays.specs.declared.mark.Mark.{Mark}
use Rattle.delays.specs.Routines.{call_over, left_in, returned_in}
use Rattle.delays.specs.Spans.{is_closed, span_by, spent_more}
use Rattle.delays.specs.Stretches.{Event}
use Rattle.delays.specs.Tallies.{begun_after, Delayed, mark_in, put_down}

abbrev pub spent_plain : State → ℕ → ℕ → Delayed → List ℕ
spent_plain t cause cycles d = spent_more d.spent cause (t.cycles - cycles)

abbrev pub after_plain : State → ℕ → ℕ → Delayed → Mark
after_plain t cause cycles d = record { step = d.steps + 1; cycles = t.cycles; spent = spent_plain t cause cycles d }

abbrev pub begun_plain : State → ℕ → ℕ → Delayed → Option Begun
begun_plain t here cycles d = begun_after (is_closed t) (record { by = here; mark = mark_in d cycles }) d.closed

abbrev pub span_plain : State → ℕ → ℕ → ℕ → Delayed → Option Event
span_plain t here cause cycles d = span_by (is_closed t) (begun_plain t here cycles d) (after_plain t cause cycles d) here

abbrev pub over_plain : State → ℕ → ℕ → ℕ → Delayed → Option Event
over_plain t here cause cycles d = call_over (returned_in t d.calls) (after_plain t cause cycles d) here

unfoldable pub plain_after : State → ℕ → ℕ → ℕ → Delayed → Delayed
plain_after t here cause cycles d =
    record {
      steps = d.steps + 1;
      cycles = t.cycles;
      spent = spent_plain t cause cycles d;
      last = d.last;
      waits = d.waits;
      closed = if is_closed t then begun_plain t here cycles d else None;
      calls = left_in t d.calls;
      waited = d.waited;
      spans = put_down d.spans (span_plain t here cause cycles d);
      called = put_down d.called (over_plain t here cause cycles d);
    }
