-- The calls of routines while no interrupt is served, as `over` and `out` of a session take them: from the state before TC to the first
-- one, while none is served, in which Z leads to the place after TC.
use Rattle.std.specs.Prelude.{◌≡◌, ℕ, zero, suc, ◌-◌, ◌&&◌, not, List, [], ◌∷◌, ◌++◌, length, take, drop, slice_get, Option, Some, None}
use Rattle.std.specs.Prelude.{if◌then◌else◌}
use Rattle.std.specs.List.{position_or_len}
use Rattle.space.specs.Places.{same_place}
use Rattle.space.specs.declared.place.Linear.{Linear}
use Rattle.cpu.specs.declared.account.Account.TheVariants.{Place}
use Rattle.cpu.specs.declared.next_step.NextStep.{NextStep}
use Rattle.cpu.specs.declared.next_step.NextStep.TheVariants.{Takes, Enters, Executes}
use Rattle.cpu.specs.Effects.{next_address, place_in}
use Rattle.cpu.specs.NextStep.{next_step}
use Rattle.cpu.specs.Run.{run}
use Rattle.cpu.specs.State.{State, Scenario}
use Rattle.calls.specs.Calls.{called_place, is_call, return_place}
use Rattle.cover.specs.Tallies.{account_number}
use Rattle.delays.specs.declared.call.Call.{Call}
use Rattle.delays.specs.declared.mark.Mark.{Mark}
use Rattle.delays.specs.Spans.{here_at, mark}
use Rattle.delays.specs.Stretches.{Event}

-- the most calls that are known to be in progress
abbrev pub most_calls : ℕ
most_calls = 32

-- the call that a step makes at a moment, if it makes one while no interrupt is served
abbrev pub call_in : State → NextStep → Mark → Option Call
call_in s (Takes input) before = None
call_in s (Enters k) before = None
call_in s (Executes f) before = if not s.inside
    && is_call s f then Some (record { back = return_place s; to = called_place s f; mark = before }) else None

-- of calls in progress, the outer ones first, how many stand before the first that returns to a place; this one; and those that are left
-- where the place is come to, for it is over, and all that it made
abbrev pub depth : Linear → List Call → ℕ
depth place calls = position_or_len (λ c. same_place place c.back) calls

abbrev pub returned : Linear → List Call → Option Call
returned place calls = slice_get calls (depth place calls)

abbrev pub without : Linear → List Call → List Call
without place calls = take (depth place calls) calls

-- and one more
abbrev pub last_calls : List Call → List Call
last_calls calls = drop (length calls - most_calls) calls

abbrev pub with_call : Option Call → List Call → List Call
with_call None calls = calls
with_call (Some c) calls = last_calls (without c.back calls ++ c ∷ [])

-- where a state is come to: the call that is over, and those that are left
abbrev pub returned_in : State → List Call → Option Call
returned_in t calls = if t.inside then None else returned (place_in t (next_address t)) calls

abbrev pub left_in : State → List Call → List Call
left_in t calls = if t.inside then calls else without (place_in t (next_address t)) calls

-- those in progress after n steps
abbrev pub call_at : Scenario → ℕ → Option Call
call_at scenario n = call_in (run scenario n) (next_step scenario (run scenario n)) (mark scenario n)

unfoldable pub in_progress : Scenario → ℕ → List Call
in_progress scenario zero = []
in_progress scenario (suc n) = left_in (run scenario (suc n)) (with_call (call_at scenario n) (in_progress scenario n))

-- the call that the step after n others ends, at the row of the place that it called
abbrev pub call_over : Option Call → Mark → ℕ → Option Event
call_over None after here = None
call_over (Some c) after here = Some (account_number (Place c.to), record { from = c.mark; to = after; step = after.step; end = here })

abbrev pub call_ended : Scenario → ℕ → Option Event
call_ended scenario n = call_over (returned_in (run scenario (suc n)) (with_call (call_at scenario n) (in_progress scenario n)))
    (mark scenario (suc n)) (here_at scenario n)
