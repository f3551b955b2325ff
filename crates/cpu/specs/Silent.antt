-- Steps that put nothing out.
use Rattle.std.specs.Prelude.{◌≡◌, ℕ, ◌<◌, ◌≤◌, None}
use Rattle.cpu.specs.Run.{out}
use Rattle.cpu.specs.State.{Scenario}

-- no step behind step m up to step n puts anything out
abbrev pub IsSilent : Scenario → ℕ → ℕ → Type 0
IsSilent scenario m n = (k : ℕ) → m < k → k ≤ n → out scenario k ≡ None
