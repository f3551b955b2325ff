-- A run that is made up to the first hole, step by step.
use Rattle.std.proofs.Common.{◌≡◌, ℕ, zero, suc, ◌+◌, ◌-◌, ◌<◌, Bool, true, false, Option, Some, None, refl, sym, ap, ◌∙◌}
use Rattle.std.proofs.Common.{arith, add-one, if◌then◌else◌}
use Rattle.std.specs.Option.{option_or}
use Rattle.cpu.specs.Run.{run}
use Rattle.cpu.specs.State.{Scenario, State}
use Rattle.holes.specs.HoleRuns.{fetches_hole, first_hole, hole_after, place_of_z}
use Rattle.holes.specs.declared.run_to_hole.FoundHole.{FoundHole}
use Rattle.rope.specs.Places.{Words}
use Rattle.space.specs.declared.place.Linear.{Linear}

pub none_first : (scenario : Scenario) (other : Words) → first_hole scenario other 0 ≡ None
unfolding first_hole
none_first scenario other = refl

-- whether a hole is fetched after n steps
hole_is : (scenario : Scenario) (other : Words) (n : ℕ) (b : Bool) → fetches_hole scenario other (run scenario n) ≡ b
    → hole_after scenario other n ≡ (if b then Some (record { steps = n; place = place_of_z (run scenario n) }) else None)
hole_is scenario other n b e =
    ap (λ (a : Bool). if a then Some (record { steps = n; place = place_of_z (run scenario n) }) else None) e

fetches_is : (scenario now : Scenario) (other : Words) (n : ℕ) (s : State) (b : Bool) → now ≡ scenario → s ≡ run scenario n
    → fetches_hole now other s ≡ b → fetches_hole scenario other (run scenario n) ≡ b
fetches_is scenario now other n s b same at e = rw (same, at) at e

pub none_more : (scenario now : Scenario) (other : Words) (n : ℕ) (s : State) → now ≡ scenario → s ≡ run scenario n
    → first_hole scenario other n ≡ None → fetches_hole now other s ≡ false → first_hole scenario other (n + 1) ≡ None
unfolding first_hole
none_more scenario now other n s same at none not_here =
    rw (add-one n) (ap (λ (o : Option FoundHole). option_or o (hole_after scenario other n)) none
    ∙ hole_is scenario other n false (fetches_is scenario now other n s false same at not_here))

found_later : (scenario : Scenario) (other : Words) (n k m : ℕ) (h : FoundHole) → m ≡ suc (n + k) → first_hole scenario other n ≡ None
    → hole_after scenario other n ≡ Some h → first_hole scenario other m ≡ Some h
unfolding first_hole
found_later scenario other n zero m h e none found =
    let last : m ≡ suc n = omega (arith, e) in
    rw last (ap (λ (o : Option FoundHole). option_or o (hole_after scenario other n)) none ∙ found)
found_later scenario other n (suc k) m h e none found =
    let last : m ≡ suc (suc (n + k)) = omega (arith, e) in
    rw last (ap (λ (o : Option FoundHole). option_or o (hole_after scenario other (suc (n + k))))
    (found_later scenario other n k (suc (n + k)) h refl none found))

pub found_at : (scenario now : Scenario) (other : Words) (n steps : ℕ) (s : State) (place : Linear) → n < steps → now ≡ scenario
    → s ≡ run scenario n → first_hole scenario other n ≡ None → fetches_hole now other s ≡ true → place ≡ place_of_z s
    → Some (record { steps = n; place = place }) ≡ first_hole scenario other steps
found_at scenario now other n steps s place within same at none here there =
    let z : place ≡ place_of_z (run scenario n) = rw at at there in
    let found : hole_after scenario other n ≡ Some (record { steps = n; place = place_of_z (run scenario n) }) =
    hole_is scenario other n true (fetches_is scenario now other n s true same at here) in
    rw z (sym (found_later scenario other n (steps - suc n) steps _ (omega (arith, within)) none found))

pub none_found : (scenario : Scenario) (other : Words) (n steps : ℕ) → n ≡ steps → first_hole scenario other n ≡ None
    → None ≡ first_hole scenario other steps
none_found scenario other n steps end none = sym (rw end at none)
