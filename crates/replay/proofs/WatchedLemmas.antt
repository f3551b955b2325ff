-- Steps that were watched, as a list.
use Rattle.std.proofs.Common.{◌≡◌, ℕ, zero, suc, ◌+◌, Bool, false, Option, List, [], ◌∷◌, ◌++◌, length, refl, arith}
use Rattle.std.proofs.lemmas.List.{length-append}
use Rattle.cpu.specs.State.{State, Scenario}
use Rattle.cpu.specs.declared.output.Output.{Output}
use Rattle.cpu.specs.Run.{run, out}
use Rattle.replay.specs.Watched.{WatchedFor, WatchedSteps, steps_after}

-- of steps in a list
pub length_steps_after : (scenario : Scenario) (low m : ℕ) → length (steps_after scenario low m) ≡ m
length_steps_after scenario low zero = refl
length_steps_after scenario low (suc m) = rw length-append (omega (arith, length_steps_after scenario low m))

steps_push : {W : Type 0} (sees : W → Option Output → State → Bool → W → Type 0) (old : W) (ss : List (Option Output × State)) (mid : W)
    (s : Option Output × State) (ended : Bool) (new : W)
    → WatchedSteps sees old ss false mid → sees mid s.0 s.1 ended new → WatchedSteps sees old (ss ++ s ∷ []) ended new
steps_push sees old [] mid s ended new h last = rw h.1 at last
steps_push sees old (x ∷ []) mid s ended new h last = (mid, h, last)
steps_push sees old (x ∷ y ∷ xs) mid s ended new h last = (h.0, h.1, steps_push sees h.0 (y ∷ xs) mid s ended new h.2 last)

pub watched_steps : {W : Type 0} (sees : W → Option Output → State → Bool → W → Type 0) (scenario : Scenario) (low m : ℕ) (ended : Bool)
    (old new : W) → WatchedFor sees scenario low m ended old new → WatchedSteps sees old (steps_after scenario low m) ended new
watched_steps sees scenario low zero ended old new h = h
watched_steps sees scenario low (suc m) ended old new (between, early, late) =
    steps_push sees old (steps_after scenario low m) between (out scenario (low + m + 1), run scenario (low + m + 1)) ended new
    (watched_steps sees scenario low m false old between early) late
