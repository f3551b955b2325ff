-- After which step a program idles: as Brent finds a cycle, by the state after a step whose number is a power of two.
use Rattle.std.specs.Prelude.{ℕ, zero, suc, ◌*◌, ◌==◌, ◌&&◌, not, nat_le, Bool, false, length, Option, None, Some, unwrap_or, if◌then◌else◌}
use Rattle.std.specs.Option.{option_or}
use Rattle.cpu.specs.InputsLeft.{has_input_left}
use Rattle.cpu.specs.Run.{run, outs}
use Rattle.cpu.specs.State.{State, Scenario}
use Rattle.idle.specs.Alike.{are_alike}
use Rattle.idle.specs.declared.checkpoint.Checkpoint.{Checkpoint}

-- a checkpoint: the state after a step, whether an input is still to come then, and how many words were put out
abbrev pub kept_at : Scenario → ℕ → State → ℕ → Checkpoint
kept_at scenario step s outputs = record { step = step; machine = s; has_input_left = has_input_left scenario s; outputs = outputs }

-- it is kept until the number of a step is twice its own
abbrev pub renewed : Scenario → ℕ → State → ℕ → Checkpoint → Checkpoint
renewed scenario step s outputs c = if nat_le (2 * c.step) step then kept_at scenario step s outputs else c

-- the checkpoint after n steps: that of the start, or of the last step whose number is a power of two
unfoldable pub checkpoint : Scenario → ℕ → Checkpoint
checkpoint scenario zero = kept_at scenario 0 (run scenario 0) 0
checkpoint scenario (suc n) = renewed scenario (suc n) (run scenario (suc n)) (length (outs scenario (suc n))) (checkpoint scenario n)

-- the state is that of a checkpoint again, with no input to come since then, and nothing put out
abbrev pub is_again : Checkpoint → State → ℕ → Bool
is_again c s outputs = not c.has_input_left && c.outputs == outputs && are_alike c.machine s

-- whether a program idles after step n
abbrev pub idles : Scenario → ℕ → Bool
idles scenario zero = false
idles scenario (suc n) = is_again (checkpoint scenario n) (run scenario (suc n)) (length (outs scenario (suc n)))

-- the first of n steps after which it does
unfoldable pub first_idle : Scenario → ℕ → Option ℕ
first_idle scenario zero = None
first_idle scenario (suc n) = option_or (first_idle scenario n) (if idles scenario (suc n) then Some (suc n) else None)

-- how many steps a run has that ends where the program idles, and has most at most
abbrev pub steps_until_idle : Scenario → ℕ → ℕ
steps_until_idle scenario most = unwrap_or (first_idle scenario most) most
