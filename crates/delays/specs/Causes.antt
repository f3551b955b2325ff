-- To what the cycles of a step are put down: an input, the interrupt that is served, that interrupts are inhibited; and in the main
-- program while they may come, what keeps one from being entered before an instruction, if anything does.
use Rattle.std.specs.Prelude.{ℕ, ◌==◌, List, codes, is_some, if◌then◌else◌}
use Rattle.words.specs.Signs.{over}
use Rattle.cpu.specs.declared.next_step.NextStep.{NextStep}
use Rattle.cpu.specs.Effects.{accumulator_of, has_overflow}
use Rattle.cpu.specs.State.{State}
use Rattle.access.specs.Levels.{allowed, level_by, level_name}

-- causes by their numbers: the levels, and of the main program while interrupts may come what bars them: extracode, a sum that INDEX
-- left, a word that RESUME brought, or that A overflows
abbrev pub extended : ℕ
extended = 13

abbrev pub indexed : ℕ
indexed = 14

abbrev pub resumed : ℕ
resumed = 15

abbrev pub overflowed : ℕ
overflowed = 16

abbrev pub causes : ℕ
causes = 17

abbrev pub bar_of : State → ℕ
bar_of s =
    if s.extra then extended
    else (if is_some s.waiting_sum then indexed
    else (if is_some s.waiting_word then resumed
    else (if has_overflow (over (accumulator_of s)) then overflowed
    else allowed)))

abbrev pub cause_in : ℕ → State → ℕ
cause_in level s = if level == allowed then bar_of s else level

-- the cause of a step that follows a state, where an interrupt was entered last
abbrev pub cause_by : NextStep → State → ℕ → ℕ
cause_by step s last = cause_in (level_by step s last) s

-- its name
abbrev pub cause_name : ℕ → List ℕ
cause_name cause =
    if cause == extended then codes "EXTEND"
    else (if cause == indexed then codes "INDEX"
    else (if cause == resumed then codes "RESUME"
    else (if cause == overflowed then codes "OVERFLOW"
    else level_name cause)))
