-- Many steps at once.
use Rattle.std.specs.Prelude.{◌≡◌, ℕ, ◌+◌, ◌*◌, ◌<◌, ◌≤◌, Bool, true, false, None}
use Rattle.feed.specs.Merged.{due}
use Rattle.cpu.specs.declared.instruction.Instruction.{Instruction}
use Rattle.cpu.specs.declared.instruction.Instruction.TheVariants.{Tc, Resume, Index, Write, Wand, Wor}
use Rattle.cpu.specs.State.{State, Scenario}
use Rattle.cpu.specs.Next.{least_request}

-- A state in which nothing waits, and no interrupt is asked for.
pub record IsStill (s : State) : Type 0 where
  pub sum : s.waiting_sum ≡ None
  pub word : s.waiting_word ≡ None
  pub unasked : least_request s.requests ≡ None

-- and in which no input is due for so many steps, of which none takes more than eight cycles
pub record IsQuiet (scenario : Scenario) (s : State) (steps : ℕ) : Type 0 where
  pub still : IsStill s
  pub none : (cycles : ℕ) → s.cycles ≤ cycles → cycles < s.cycles + 8 * steps → due scenario.inputs s.taken cycles ≡ None

-- whether an instruction leaves nothing that waits, and puts nothing out
abbrev pub is_plain : Instruction → Bool
is_plain Resume = false
is_plain Index = false
is_plain Write = false
is_plain Wand = false
is_plain Wor = false
is_plain _ = true

-- whether no word that is set apart has this entry of the table outside extracode
abbrev pub is_sure : Instruction → Bool
is_sure Tc = false
is_sure Index = false
is_sure _ = true
