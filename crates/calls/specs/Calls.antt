-- Calls of routines: TC from one place of fixed memory to another.
use Rattle.std.specs.Prelude.{ℕ, ◌%◌, ◌&&◌, not, Bool, false, true, Option, None, Some, is_some, codes, if◌then◌else◌}
use Rattle.agc_text.specs.Tables.{same_name}
use Rattle.space.specs.Places.{same_place}
use Rattle.space.specs.declared.place.Linear.{Linear}
use Rattle.space.specs.declared.place.Linear.TheVariants.{Erasable, Fixed}
use Rattle.cpu.specs.Codes.{code_of, row_of}
use Rattle.cpu.specs.State.{State, Scenario}
use Rattle.cpu.specs.Effects.{next_address, place_in}
use Rattle.cpu.specs.Next.{following_address}
use Rattle.cpu.specs.NextStep.{next_step}
use Rattle.cpu.specs.declared.next_step.Fetched.{Fetched}
use Rattle.cpu.specs.declared.next_step.NextStep.{NextStep}
use Rattle.cpu.specs.declared.next_step.NextStep.TheVariants.{Takes, Enters, Executes}
use Rattle.calls.specs.Waiting.{standing_place}

-- an instruction is TC
abbrev pub is_tc : Fetched → Bool
is_tc f = same_name (row_of (code_of f.extra f.word).instruction).name (codes "TC")

-- a place in fixed memory
abbrev pub is_fixed : Linear → Bool
is_fixed (Erasable p) = false
is_fixed (Fixed bank offset) = true

-- TC leads from a place of fixed memory to another. Where it leads to an erasable place, as TC Q does, the word there, which Q held,
-- is executed as TC, and leads back
abbrev pub leads_on : Linear → Linear → Bool
leads_on from to = is_fixed from && is_fixed to && not (same_place to from)

-- the place to which the operand of TC leads
abbrev pub called_place : State → Fetched → Linear
called_place s f = place_in s (f.word % 0o10000)

abbrev pub is_call : State → Fetched → Bool
is_call s f = is_tc f && leads_on (standing_place s) (called_place s f)

-- where Z leads once an instruction is fetched: a routine that it enters returns there
abbrev pub address_after : State → ℕ
address_after s = if is_some s.waiting_word then next_address s else following_address s

abbrev pub return_place : State → Linear
return_place s = place_in s (address_after s)

-- a step enters a routine, which returns to this place
abbrev pub entered_by : State → NextStep → Option Linear
entered_by s (Takes input) = None
entered_by s (Enters k) = None
entered_by s (Executes f) = if is_call s f then Some (return_place s) else None

abbrev pub enters : Scenario → State → Option Linear
enters scenario s = entered_by s (next_step scenario s)
