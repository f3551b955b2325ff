-- The last step from a first one on of which something holds, by what a search finds.
use Rattle.std.proofs.Common.{◌≡◌, ℕ, zero, suc, ◌+◌, ◌-◌, ◌≤◌, leb, min, Bool, true, false, cond, Option, Some, None, List, refl, sym}
use Rattle.std.proofs.Common.{ap, ◌∙◌, inl, inr, arith}
use Rattle.std.proofs.lemmas.Bool.{cases_lt}
use Rattle.std.proofs.lemmas.Bool.Decides.{nat_tests}
use Rattle.std.specs.Option.{option_map}
use Rattle.cpu.specs.State.{Scenario}
use Rattle.cpu.specs.Chains.{cells_among}
use Rattle.cpu.specs.declared.spot.Spot.{Spot}
use Rattle.replay.specs.Found.{or_other, last_between}
use Rattle.replay.specs.LastHit.{last_hit}
use Rattle.replay.specs.Whys.{step_writes, last_writer}
use Rattle.replay.proofs.WhyLemmas.{writer_is}
use Rattle.origins.specs.Following.{CellSet}
use Rattle.debugger.specs.WhysSince.{not_before, since_step, found_if}

abbrev step_of : Option (ℕ × ℕ) → Option ℕ
step_of found = option_map (λ (r : ℕ × ℕ). r.0) found

-- nothing before the first step
early_by : (b : Bool) (first t : ℕ) (rest : Option ℕ) → suc t ≤ first → not_before first rest ≡ None
    → not_before first (cond b (Some t) rest) ≡ None
early_by true first t rest h none = let no : leb first t ≡ false = grind (arith, nat_tests) in rw no refl
early_by false first t rest h none = none

early : (hit : ℕ → Bool) (first p : ℕ) → p ≤ first → not_before first (last_hit hit p) ≡ None
early hit first zero h = refl
early hit first (suc t) h = early_by (hit t) first t (last_hit hit t) h (early hit first t (omega (arith, h)))

-- from it on
more_by : (b : Bool) (first t : ℕ) (found : Option (ℕ × ℕ)) (rest : Option ℕ) → first ≤ t → step_of found ≡ not_before first rest
    → step_of (or_other t (found_if b) found) ≡ not_before first (cond b (Some t) rest)
more_by true first t found rest h e = let yes : leb first t ≡ true = grind (arith, nat_tests) in rw yes refl
more_by false first t found rest h e = e

more : (hit : ℕ → Bool) (first m : ℕ) → step_of (last_between (λ t. found_if (hit t)) first m) ≡ not_before first (last_hit hit (first + m))
more hit first zero = let e : first + 0 ≡ first = omega arith in rw e (sym (early hit first first (omega arith)))
more hit first (suc m) =
    let e : first + suc m ≡ suc (first + m) = omega arith in
    rw e (more_by (hit (first + m)) first (first + m) (last_between (λ t. found_if (hit t)) first m) (last_hit hit (first + m))
    (omega arith) (more hit first m))

pub since_is : (hit : ℕ → Bool) (since p : ℕ) → step_of (last_between (λ t. found_if (hit t)) (min (since - 1) p) (p - min (since - 1) p))
    ≡ since_step since (last_hit hit p)
since_is hit since p =
    elim (cases_lt p (since - 1)) [
      | inl before ↦
          let e : min (since - 1) p ≡ p = omega (arith, before) in
          let none : p - p ≡ 0 = omega arith in
          rw (e, none) (sym (early hit (since - 1) p (omega (arith, before))))
      | inr within ↦
          let e : min (since - 1) p ≡ since - 1 = omega (arith, within) in
          let q : since - 1 + (p - (since - 1)) ≡ p = omega (arith, within) in
          rw e (more hit (since - 1) (p - (since - 1)) ∙ ap (λ k. not_before (since - 1) (last_hit hit k)) q)
    ]

pub writer_since_is : (scenario : Scenario) (cells : CellSet) (since p : ℕ) (xs : List Spot) → cells ≡ cells_among xs
    → since_step since (last_hit (step_writes scenario cells) p) ≡ since_step since (last_writer scenario xs p)
writer_since_is scenario cells since p xs is = ap (since_step since)
    (writer_is scenario cells p (last_hit (step_writes scenario cells) p) refl xs is)
