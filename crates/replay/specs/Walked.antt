-- What a stepper saw of the steps that it made.
use Rattle.std.specs.Prelude.{◌≡◌, ℕ, ◌+◌, Bool, false}
use Rattle.std.proofs.Common.{zero, suc}
use Rattle.cpu.specs.State.{State, Scenario}
use Rattle.cpu.specs.Run.{run}

-- a stepper made m steps after step low, each from the state before it, and went on after each but perhaps the last
abbrev pub WalkedFor : {S : Type 0} → (S → Scenario → State → Bool → S → Type 0) → Scenario → ℕ → ℕ → Bool → S → S → Type 0
WalkedFor sees scenario low zero ended old new = (ended ≡ false) × (new ≡ old)
WalkedFor {S} sees scenario low (suc m) ended old new =
    (between : S) × WalkedFor sees scenario low m false old between × sees between scenario (run scenario (low + m)) ended new

-- a stepper made the steps after step low up to step high, each once and in order
abbrev pub Walked : {S : Type 0} → (S → Scenario → State → Bool → S → Type 0) → Scenario → ℕ → ℕ → Bool → S → S → Type 0
Walked sees scenario low high ended old new = (m : ℕ) × (high ≡ low + m) × WalkedFor sees scenario low m ended old new
