-- What a watcher of steps was told.
use Rattle.std.specs.Prelude.{◌≡◌, ℕ, ◌+◌, Bool, false, Option, List, [], ◌∷◌, ◌++◌}
use Rattle.std.proofs.Common.{zero, suc}
use Rattle.cpu.specs.State.{State, Scenario}
use Rattle.cpu.specs.declared.output.Output.{Output}
use Rattle.cpu.specs.Run.{run, out}

-- a watcher was told m steps after step low, each with what it put out and the machine after it, and went on after each but
-- perhaps the last
abbrev pub WatchedFor : {W : Type 0} → (W → Option Output → State → Bool → W → Type 0) → Scenario → ℕ → ℕ → Bool → W → W → Type 0
WatchedFor sees scenario low zero ended old new = (ended ≡ false) × (new ≡ old)
WatchedFor {W} sees scenario low (suc m) ended old new =
    (between : W) × WatchedFor sees scenario low m false old between
    × sees between (out scenario (low + m + 1)) (run scenario (low + m + 1)) ended new

-- a watcher was told the steps after step low up to step high, each once and in order
abbrev pub Watched : {W : Type 0} → (W → Option Output → State → Bool → W → Type 0) → Scenario → ℕ → ℕ → Bool → W → W → Type 0
Watched sees scenario low high ended old new = (m : ℕ) × (high ≡ low + m) × WatchedFor sees scenario low m ended old new

-- what each of m steps after step low puts out, and the machine after it
abbrev pub steps_after : Scenario → ℕ → ℕ → List (Option Output × State)
steps_after scenario low zero = []
steps_after scenario low (suc m) = steps_after scenario low m ++ (out scenario (low + m + 1), run scenario (low + m + 1)) ∷ []

-- a watcher was told these steps, each once and in order, and went on after each but perhaps the last
abbrev pub WatchedSteps : {W : Type 0} → (W → Option Output → State → Bool → W → Type 0) → W → List (Option Output × State) → Bool → W
    → Type 0
WatchedSteps sees old [] ended new = (ended ≡ false) × (new ≡ old)
WatchedSteps sees old (s ∷ []) ended new = sees old s.0 s.1 ended new
WatchedSteps {W} sees old (s ∷ t ∷ ss) ended new = (between : W) × sees old s.0 s.1 false between
    × WatchedSteps sees between (t ∷ ss) ended new
