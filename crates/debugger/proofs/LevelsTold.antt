-- The interrupt that is served after a step is the one that the step after the last outside has entered.
use Rattle.std.proofs.Common.{◌≡◌, ℕ, zero, suc, Bool, true, false, cond, not, Some, refl, sym, ap, ◌∙◌}
use Rattle.cpu.specs.NextStep.{next_step}
use Rattle.cpu.specs.Run.{run}
use Rattle.cpu.specs.State.{Scenario}
use Rattle.origins.specs.Served.{entered_by, served, served_after}
use Rattle.debugger.specs.OriginsTold.{StandsAsTold}
use Rattle.debugger.specs.Whys.{last_outside}

one_more : (scenario : Scenario) (n u : ℕ) (b : Bool) → (run scenario n).inside ≡ b → StandsAsTold scenario n u
    → StandsAsTold scenario (suc n) u
unfolding served
one_more scenario n u true here before within is =
    let told : last_outside scenario n
    ≡ Some u = sym (ap (λ (c : Bool). cond (not c) (Some n) (last_outside scenario n)) here) ∙ is in
    ap (λ (c : Bool). served_after c (cond (run scenario n).inside (served scenario n)
    (entered_by (next_step scenario (run scenario n))))) within
    ∙ ap (λ (c : Bool). cond c (served scenario n) (entered_by (next_step scenario (run scenario n)))) here
    ∙ before here told
one_more scenario n u false here before within is =
    let last : Some n ≡ Some u = sym (ap (λ (c : Bool). cond (not c) (Some n) (last_outside scenario n)) here) ∙ is in
    let same : n ≡ u = cc in
    ap (λ (c : Bool). served_after c (cond (run scenario n).inside (served scenario n)
    (entered_by (next_step scenario (run scenario n))))) within
    ∙ ap (λ (c : Bool). cond c (served scenario n) (entered_by (next_step scenario (run scenario n)))) here
    ∙ ap (λ t. entered_by (next_step scenario (run scenario t))) same

pub stands_as_told : (scenario : Scenario) (t u : ℕ) → StandsAsTold scenario t u
stands_as_told scenario zero u within is = absurd cc
stands_as_told scenario (suc n) u within is =
    one_more scenario n u (run scenario n).inside refl (stands_as_told scenario n u) within is
