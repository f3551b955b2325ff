-- The routines in progress, as each state is looked at.
use Rattle.std.proofs.Common.{◌≡◌, ◌<◌, ◌+◌, ◌^◌, ℕ, zero, suc, [], ap, ◌∙◌, refl, arith}
use Rattle.cpu.specs.State.{State, Scenario}
use Rattle.cpu.specs.Run.{run}
use Rattle.replay.specs.Looked.{Looked}
use Rattle.debugger.specs.Followed.{Follower, HasFollowed}
use Rattle.debugger.specs.Routines.{routines_by, inside_by}

pub record Seen (scenario : Scenario) (m : ℕ) (f : Follower) : Type 0 where
  pub counted : f.steps ≡ m
  pub outside : f.outer ≡ routines_by scenario m
  pub inside : f.inner ≡ inside_by scenario m

pub seen : {L : Type 0} (sees : L → Scenario → State → L → Type 0) (view : L → Follower)
    → ((w : L) (q : Scenario) (s : State) (w' : L) → sees w q s w' → HasFollowed q s (view w) (view w'))
    → (scenario : Scenario) (m : ℕ) (old new : L) → m < 2 ^ 64 → view old ≡ record { steps = 0; outer = []; inner = [] }
    → Looked sees scenario m old new → Seen scenario m (view new)
seen sees view tells scenario zero old new small none looked = rw (ap view looked ∙ none)
    (record { counted = refl; outside = refl; inside = refl })
seen sees view tells scenario (suc m) old new small none (between, early, late) =
    let so_far = seen sees view tells scenario m old between (omega (arith, small)) none early in
    let it = tells between scenario (run scenario m) new late in
    let number : (view new).steps ≡ m + 1 = omega (arith, small, so_far.counted, it.counted) in
    record {
      counted = omega (arith, number);
      outside = it.outside ∙ rw (number, so_far.outside) refl;
      inside = it.inside ∙ rw (number, so_far.inside) refl;
    }
