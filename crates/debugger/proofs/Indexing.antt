-- The INDEX that moved the operand of a step.
use Rattle.std.proofs.Common.{◌≡◌, ℕ, zero, suc, Bool, true, false, Option, Some, None, if◌then◌else◌, refl}
use Rattle.std.specs.Option.{option_map}
use Rattle.rope.specs.Places.{Words}
use Rattle.feed.specs.Merged.{due}
use Rattle.feed.specs.declared.input.Input.{Input}
use Rattle.cpu.specs.State.{State, Scenario}
use Rattle.cpu.specs.Next.{entry}
use Rattle.cpu.specs.NextStep.{next_step_by, next_step}
use Rattle.cpu.specs.declared.next_step.NextStep.{NextStep}
use Rattle.cpu.specs.declared.next_step.NextStep.TheVariants.{Takes, Enters, Executes}
use Rattle.cpu.specs.Links.{Link, link_by, link}
use Rattle.cpu.specs.Beside.{is_instruction}
use Rattle.replay.specs.LastHit.{last_hit}
use Rattle.replay.specs.Found.{or_other, last_found}
use Rattle.debugger.specs.Whys.{instruction_found}
use Rattle.debugger.specs.WhysSince.{found_if}

-- whether a step is an instruction, by what it is
abbrev pub is_told : NextStep → Bool
is_told (Takes input) = false
is_told (Enters k) = false
is_told (Executes f) = true

same_by : (rope : Words) (s : State) (given : Option (Input × Option ℕ)) (k : Option ℕ)
    → is_told (next_step_by rope s given k) ≡ is_instruction (link_by rope s given k)
same_by rope s (Some given) k = refl
same_by rope s None (Some k) = refl
same_by rope s None None = refl

pub executes_instruction : (scenario : Scenario) (s : State) → is_told (next_step scenario s) ≡ is_instruction (link scenario s)
unfolding next_step link
executes_instruction scenario s = same_by scenario.rope s (due scenario.inputs s.taken s.cycles) (entry s)

-- the last step of which a search finds that it is an instruction
found_at : (t : ℕ) (b : Bool) (last : Option (ℕ × ℕ)) (rest : Option ℕ) → option_map (λ (r : ℕ × ℕ). r.0) last ≡ rest
    → option_map (λ (r : ℕ × ℕ). r.0) (or_other t (if b then Some 0 else None) last) ≡ (if b then Some t else rest)
found_at t true last rest e = refl
found_at t false last rest e = e

pub found_executed : (step : ℕ → Link) (p : ℕ)
    → option_map (λ (r : ℕ × ℕ). r.0) (last_found (λ t. instruction_found (step t)) p) ≡ last_hit (λ t. is_instruction (step t)) p
found_executed step zero = refl
found_executed step (suc t) = found_at t (is_instruction (step t)) _ _ (found_executed step t)

-- the last step of which a search finds that something holds
pub found_last : (hit : ℕ → Bool) (p : ℕ) → option_map (λ (r : ℕ × ℕ). r.0) (last_found (λ t. found_if (hit t)) p) ≡ last_hit hit p
found_last hit zero = refl
found_last hit (suc t) = found_at t (hit t) _ _ (found_last hit t)
