-- Routines, which TC enters, and steps that go on to where they return to.
use Rattle.std.specs.Prelude.{ℕ, zero, suc, ◌+◌, ◌-◌, min, Bool, false, Option, None, Some, List, [], ◌∷◌, ◌++◌, length, take, slice_get}
use Rattle.std.specs.Prelude.{codes, decimal, if◌then◌else◌}
use Rattle.std.specs.List.{position_or_len}
use Rattle.std.specs.Option.{option_map}
use Rattle.space.specs.Places.{same_place}
use Rattle.space.specs.declared.place.Linear.{Linear}
use Rattle.cpu.specs.State.{State, Scenario}
use Rattle.cpu.specs.Effects.{next_address, place_in}
use Rattle.cpu.specs.NextStep.{next_step}
use Rattle.cpu.specs.Run.{run}
use Rattle.cpu.specs.declared.next_step.NextStep.{NextStep}
use Rattle.cpu.specs.declared.next_step.NextStep.TheVariants.{Takes, Enters, Executes}
use Rattle.calls.specs.Calls.{called_place, enters, is_call, return_place}
use Rattle.calls.specs.Waiting.{standing_place}
use Rattle.commands.specs.declared.command.Breakpoint.{Breakpoint}
use Rattle.commands.specs.declared.command.Breakpoint.TheVariants.{Cycles, Returned, Outside}
use Rattle.replay.specs.LastHit.{first_hit}
use Rattle.debugger.specs.History.{History}
use Rattle.debugger.specs.Growth.{growth_told, holds}
use Rattle.debugger.specs.Replies.{Desk, Reply, line, here, stands, refuses, last_of, after_text, after_growth}
use Rattle.debugger.specs.declared.ending.Ending.{Ending}
use Rattle.debugger.specs.declared.ending.Ending.TheVariants.{Reached, Hit, NoMemory, Limit}
use Rattle.debugger.specs.declared.routines.Call.{Call}

-- the most routines that are known to be in progress
abbrev pub most_routines : ℕ
most_routines = 32

-- the call that the step of a number is: from where, of which routine, and where this returns to
abbrev pub call_by : ℕ → State → NextStep → Option Call
call_by k s (Takes input) = None
call_by k s (Enters interrupt) = None
call_by k s (Executes f) =
    if is_call s f then Some (record { step = k; from = standing_place s; routine = called_place s f; back = return_place s }) else None

abbrev pub call_made : Scenario → ℕ → State → Option Call
call_made scenario k s = call_by k s (next_step scenario s)

-- of the calls of routines in progress, the outer ones first: those that are left where a place is come to, for the routine that
-- returns there is over, and all that it entered
abbrev pub without : Linear → List Call → List Call
without place calls = take (position_or_len (λ c. same_place place c.back) calls) calls

abbrev pub left_at : State → List Call → List Call
left_at s calls = without (place_in s (next_address s)) calls

-- and one more
abbrev pub with_call : Option Call → List Call → List Call
with_call None calls = calls
with_call (Some call) calls = last_of most_routines (without call.back calls ++ call ∷ [])

-- those after the step of a number, by those before it
abbrev pub followed : Scenario → ℕ → State → List Call → List Call
followed scenario k s calls = with_call (call_made scenario k s) (left_at s calls)

-- what is done while an interrupt is served does not matter
abbrev pub arrived : State → List Call → List Call
arrived s calls = if s.inside then calls else left_at s calls

abbrev pub stepped : Scenario → ℕ → State → List Call → List Call
stepped scenario k s calls = if s.inside then calls else followed scenario k s calls

abbrev pub routines_by : Scenario → ℕ → List Call
routines_by scenario zero = []
routines_by scenario (suc t) = stepped scenario (t + 1) (run scenario t) (routines_by scenario t)

-- the routines in progress after p steps
unfoldable pub routines : Scenario → ℕ → List Call
routines scenario p = arrived (run scenario p) (routines_by scenario p)

-- the same of those that the interrupt entered that is served: only what is done while it is counts
abbrev pub arrived_inside : State → List Call → List Call
arrived_inside s calls = if s.inside then left_at s calls else []

abbrev pub stepped_inside : Scenario → ℕ → State → List Call → List Call
stepped_inside scenario k s calls = if s.inside then followed scenario k s calls else []

abbrev pub inside_by : Scenario → ℕ → List Call
inside_by scenario zero = []
inside_by scenario (suc t) = stepped_inside scenario (t + 1) (run scenario t) (inside_by scenario t)

unfoldable pub routines_inside : Scenario → ℕ → List Call
routines_inside scenario p = arrived_inside (run scenario p) (inside_by scenario p)

-- where `over` ends: where Z leads to the place that a routine returns to, and no interrupt is served unless one was; after one
-- step where no routine is entered
abbrev pub end_of : Bool → Option Linear → Breakpoint
end_of inside None = Cycles 0
end_of inside (Some place) = Returned place inside

abbrev pub over_end : Scenario → State → Breakpoint
over_end scenario s = end_of s.inside (enters scenario s)

-- where `out` ends: where the interrupt is served no more; else where Z leads to the place that the innermost routine returns to,
-- and no interrupt is served
abbrev pub innermost : List Call → Option Linear
innermost routines = option_map (λ c. c.back) (slice_get routines (length routines - 1))

abbrev pub out_end : State → List Call → Option Breakpoint
out_end s routines = if s.inside then Some Outside else option_map (λ place. Returned place false) (innermost routines)

-- the line of the cycles that steps took: from the position to a step
abbrev pub took_line : ℕ → List ℕ
took_line cycles = line (codes "TOOK " ++ decimal cycles)

abbrev pub took : History → Desk → ℕ → ℕ
took h d t = (h.after t).cycles - (here h d).cycles

-- they are told where the end was come to
abbrev pub arrival_text : Ending → ℕ → List ℕ
arrival_text Reached cycles = []
arrival_text (Hit i) cycles = took_line cycles
arrival_text NoMemory cycles = line (codes "E2 MEMORY")
arrival_text Limit cycles = line (codes "E40 LIMIT")

-- the first step after the position, of so many that stand, at which the end is come to
abbrev pub next_end : History → Desk → Breakpoint → ℕ → Option ℕ
next_end h d end k = first_hit (λ t. holds (h.step t) (h.after t) end) (d.position + 1) (min k (d.steps - d.position))

-- the position moves on to it; where there is none, new steps are made, as many as are left
abbrev pub arrives : History → Desk → ℕ → Reply
arrives h d t = stands h (took_line (took h d t)) (record d { position = t })

abbrev pub grows_there : History → Desk → Breakpoint → ℕ → Reply
grows_there h d end target =
    let g = growth_told d.quiet h (end ∷ []) (target - d.steps) d.steps d.answers in
    let t = min target g.steps in
    after_text g.text (stands h (arrival_text g.ending (took h d t)) (after_growth d g t))

abbrev pub goes_on : History → Desk → Breakpoint → ℕ → Option ℕ → Reply
goes_on h d end k None = grows_there h d end (d.position + k)
goes_on h d end k (Some t) = arrives h d t

abbrev pub goes_to : History → Desk → ℕ → Breakpoint → Reply
goes_to h d k end = goes_on h d end k (next_end h d end k)

-- `over`, and `out`
abbrev pub goes_over : History → Desk → ℕ → Reply
goes_over h d k = goes_to h d k (over_end d.scenario (run d.scenario d.position))

abbrev pub goes_out_to : History → Desk → ℕ → Option Breakpoint → Reply
goes_out_to h d k None = refuses d (codes "NONE")
goes_out_to h d k (Some end) = goes_to h d k end

abbrev pub goes_out : History → Desk → ℕ → Reply
goes_out h d k = goes_out_to h d k (out_end (run d.scenario d.position) (routines d.scenario d.position))
