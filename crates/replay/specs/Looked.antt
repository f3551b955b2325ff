-- What an onlooker of states saw.
use Rattle.std.specs.Prelude.{◌≡◌, ℕ}
use Rattle.std.proofs.Common.{zero, suc}
use Rattle.cpu.specs.State.{State, Scenario}
use Rattle.cpu.specs.Run.{run}

-- an onlooker saw the states before each of the first m steps, each once and in order
abbrev pub Looked : {L : Type 0} → (L → Scenario → State → L → Type 0) → Scenario → ℕ → L → L → Type 0
Looked sees scenario zero old new = new ≡ old
Looked {L} sees scenario (suc m) old new = (between : L) × Looked sees scenario m old between × sees between scenario (run scenario m) new
