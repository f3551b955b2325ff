-- The level of a step: the main program, where interrupts may come or while they are inhibited, the interrupt that is served, or an input.
use Rattle.std.specs.Prelude.{ℕ, zero, suc, ◌==◌, List, codes, if◌then◌else◌}
use Rattle.cpu.specs.declared.next_step.NextStep.{NextStep}
use Rattle.cpu.specs.declared.next_step.NextStep.TheVariants.{Takes, Enters, Executes}
use Rattle.cpu.specs.NextStep.{next_step}
use Rattle.cpu.specs.Run.{run}
use Rattle.cpu.specs.State.{State, Scenario}
use Rattle.trace.specs.TraceLines.{interrupt_name}

-- levels by their numbers: 0 the main program where interrupts may come, 1 to 10 the interrupts, 11 the main program while they are
-- inhibited, 12 an input
abbrev pub allowed : ℕ
allowed = 0

abbrev pub inhibited : ℕ
inhibited = 11

abbrev pub by_input : ℕ
by_input = 12

abbrev pub levels : ℕ
levels = 13

-- the interrupt that was entered last, of those in the first n steps; 0 where none was
abbrev pub entered_by : NextStep → ℕ → ℕ
entered_by (Takes input) before = before
entered_by (Enters k) before = k
entered_by (Executes f) before = before

unfoldable pub last_entered : Scenario → ℕ → ℕ
last_entered scenario zero = 0
last_entered scenario (suc n) = entered_by (next_step scenario (run scenario n)) (last_entered scenario n)

-- the level of an instruction that a state executes, where an interrupt was entered last
abbrev pub level_executed : State → ℕ → ℕ
level_executed s last = if s.inside then last else (if s.inhibit then inhibited else allowed)

-- the level of a step that follows a state, where an interrupt was entered last; an entry is of the interrupt that is entered
abbrev pub level_by : NextStep → State → ℕ → ℕ
level_by (Takes input) s last = by_input
level_by (Enters k) s last = k
level_by (Executes f) s last = level_executed s last

-- the name of a level
abbrev pub level_name : ℕ → List ℕ
level_name level =
    if level == allowed then codes "MAIN"
    else (if level == inhibited then codes "INHIBITED"
    else (if level == by_input then codes "INPUT"
    else interrupt_name level))
