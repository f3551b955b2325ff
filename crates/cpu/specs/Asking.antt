-- The interrupts for which inputs ask.
use Rattle.std.specs.Prelude.{ℕ, Option, Some}
use Rattle.feed.specs.declared.input.Input.{Input}
use Rattle.feed.specs.declared.input.Input.TheVariants.{Count, Word, Interrupt}
use Rattle.cpu.specs.Inputs.{asked_after, asked_on, step_of, count_of}
use Rattle.cpu.specs.State.{State}

-- the interrupt for which an input asks that is taken in a state
abbrev pub interrupt_asked : State → Input → Option ℕ
interrupt_asked s (Count counter sequence) = asked_after counter (step_of sequence (count_of s counter))
interrupt_asked s (Word n w) = asked_on n
interrupt_asked s (Interrupt k) = Some k
