-- What is noted before a step, so that it is known which breakpoints hold after it. Only the contracts of the debugger's parts
-- stand on this.
use Rattle.std.specs.Prelude.{◌≡◌, ℕ, ◌<◌, ◌==◌, Bool, true, false, not, List, length, get_or, Option, None, Some}
use Rattle.space.specs.Places.{same_place}
use Rattle.cpu.specs.State.{State, Scenario}
use Rattle.cpu.specs.Effects.{place_in, next_address}
use Rattle.cpu.specs.Next.{next}
use Rattle.commands.specs.declared.command.Breakpoint.{Breakpoint}
use Rattle.commands.specs.declared.command.Breakpoint.TheVariants.{Place, Word, Channel, Bits, Cycles, Returned, Outside, Executed, Changed}
use Rattle.commands.specs.declared.subject.Subject.{Subject}
use Rattle.debugger.specs.declared.noted.Noted.{Noted}
use Rattle.debugger.specs.History.{Sight, StepSight, sight, no_step, word_of, step_from}
use Rattle.debugger.specs.Growth.{holds, lowest_hit}

-- a breakpoint asks what the step did
abbrev pub asks : Breakpoint → Bool
asks (Place place) = false
asks (Word p w) = false
asks (Channel c w) = false
asks (Bits c w mask) = false
asks (Cycles cycles) = false
asks (Returned place inside) = false
asks Outside = false
asks (Executed place) = true
asks (Changed subject) = true

-- what is looked at of the step from a state, if anything is
abbrev pub looked : Bool → Scenario → State → StepSight
looked false scenario s = no_step
looked true scenario s = step_from scenario s

-- the lowest breakpoint that holds after it, by what was looked at
abbrev pub hit_by : List Breakpoint → Bool → Scenario → State → Option ℕ
hit_by breakpoints looks scenario s = lowest_hit breakpoints (looked looks scenario s) (sight scenario.rope (next scenario s).0)

-- what the step from a state did may matter to a breakpoint: the instruction at its place stands next, or it watches for a change
abbrev pub may_matter : State → Breakpoint → Bool
may_matter s (Place place) = false
may_matter s (Word p w) = false
may_matter s (Channel c w) = false
may_matter s (Bits c w mask) = false
may_matter s (Cycles cycles) = false
may_matter s (Returned place inside) = false
may_matter s Outside = false
may_matter s (Executed place) = same_place (place_in s (next_address s)) place
may_matter s (Changed subject) = true

-- the word in a state that a breakpoint watches for a change, if it watches one
abbrev pub watched_word : State → Breakpoint → Option ℕ
watched_word s (Place place) = None
watched_word s (Word p w) = None
watched_word s (Channel c w) = None
watched_word s (Bits c w mask) = None
watched_word s (Cycles cycles) = None
watched_word s (Returned place inside) = None
watched_word s Outside = None
watched_word s (Executed place) = None
watched_word s (Changed subject) = Some (word_of s subject)

-- the word of something is another than the one that was noted
abbrev pub is_other : Option ℕ → State → Subject → Bool
is_other None after subject = false
is_other (Some word) after subject = not (word == word_of after subject)

-- a step as the breakpoint of an index sees it, by what was noted before it and the state after it
abbrev pub noted_step : Option Noted → ℕ → State → StepSight
noted_step None index after = no_step
noted_step (Some noted) index after = record { executed = noted.executed; changed = is_other (get_or noted.words.items index None) after }

-- by what was noted before a step the same breakpoints hold as by the step
abbrev pub HoldsAlike : List Breakpoint → Option Noted → State → StepSight → Type 0
HoldsAlike breakpoints noted after step = (index : ℕ) (other : Breakpoint) (seen : Sight) → index < length breakpoints
    → holds (noted_step noted index after) seen (get_or breakpoints index other) ≡ holds step seen (get_or breakpoints index other)
