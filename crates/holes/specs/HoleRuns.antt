-- Where a run comes to a hole: before the first step that fetches its word.
use Rattle.std.specs.Prelude.{ℕ, zero, suc, ◌+◌, ◌&&◌, ◌++◌, not, Bool, true, false, List, Option, None, Some, codes, decimal}
use Rattle.std.specs.Prelude.{if◌then◌else◌}
use Rattle.std.specs.Option.{option_map_or, option_or}
use Rattle.cpu.specs.declared.next_step.NextStep.{NextStep}
use Rattle.cpu.specs.declared.next_step.NextStep.TheVariants.{Takes, Enters, Executes}
use Rattle.cpu.specs.Effects.{next_address, place_in}
use Rattle.cpu.specs.NextStep.{next_step}
use Rattle.cpu.specs.Run.{run}
use Rattle.cpu.specs.State.{Scenario, State}
use Rattle.holes.specs.Holes.{is_hole_at}
use Rattle.holes.specs.declared.run_to_hole.FoundHole.{FoundHole}
use Rattle.rope.specs.Places.{Words}
use Rattle.space.specs.declared.place.Linear.{Linear}
use Rattle.space.specs.declared.place.Linear.TheVariants as linear
use Rattle.yayul.specs.PlaceRows.{row_after}
use Rattle.yayul.specs.Program.{Source}

-- the place where Z leads
abbrev pub place_of_z : State → Linear
place_of_z s = place_in s (next_address s)

-- a place of fixed memory is a hole
abbrev pub is_hole_of : Words → Words → Linear → Bool
is_hole_of words other (linear.Fixed bank offset) = is_hole_at words other bank offset
is_hole_of words other (linear.Erasable p) = false

-- a step reads the word at the place where Z leads, to execute it, or as an interrupt is entered, which keeps it; an input that is
-- taken does not, nor does an instruction that has waited
abbrev pub fetches : NextStep → Bool
fetches (Takes input) = false
fetches (Enters k) = true
fetches (Executes f) = not f.waited

-- the step that follows a state fetches the word of a hole
abbrev pub fetches_hole : Scenario → Words → State → Bool
fetches_hole scenario other s = is_hole_of scenario.rope other (place_of_z s) && fetches (next_step scenario s)

-- the hole that is fetched after n steps, where one is
abbrev pub hole_after : Scenario → Words → ℕ → Option FoundHole
hole_after scenario other n =
    if fetches_hole scenario other (run scenario n) then Some (record { steps = n; place = place_of_z (run scenario n) }) else None

-- the first hole that one of the first n steps fetches
unfoldable pub first_hole : Scenario → Words → ℕ → Option FoundHole
first_hole scenario other zero = None
first_hole scenario other (suc n) = option_or (first_hole scenario other n) (hole_after scenario other n)

-- how many steps are made: those before the first such hole, or all
abbrev pub steps_made : Option FoundHole → ℕ → ℕ
steps_made found steps = option_map_or (λ h. h.steps) found steps

-- ## Text
-- what stands before the row of a hole: which step would fetch it
unfoldable pub hole_front : ℕ → List ℕ
hole_front steps = codes "agcws: HOLE AT STEP " ++ decimal (steps + 1) ++ codes ": "

-- the line of a hole: which step would fetch it, and its row in the listing of a source
abbrev pub hole_text : Source → Words → FoundHole → List ℕ
hole_text source words hole = row_after (hole_front hole.steps) source words 0 hole.place
