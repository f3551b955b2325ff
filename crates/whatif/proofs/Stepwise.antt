-- Trials at each of some steps, one after another.
use Rattle.std.proofs.Common.{◌≡◌, ℕ, zero, suc, ◌+◌, ◌-◌, ◌<◌, ◌≤◌, [], ◌∷◌, refl, ap, ◌∙◌, add-one, arith}
use Rattle.feed.specs.declared.input.Input.{Input}
use Rattle.cpu.specs.State.{Scenario}
use Rattle.whatif.specs.Here.{own_steps, trial_after, trials_after}

first_trial : (scenario : Scenario) (input : Input) (at n m : ℕ) → n ≡ m + 1
    → trials_after scenario input at n ≡ trial_after scenario input at ∷ trials_after scenario input (at + 1) m
first_trial scenario input at zero m e = absurd (omega (arith, e))
first_trial scenario input at (suc n) m e =
    ap (λ i. trial_after scenario input at ∷ trials_after scenario input (at + 1) i) (omega (arith, e))

-- the next of the trials that are left
pub next_trial : (scenario : Scenario) (input : Input) (first further all : ℕ) → further < all
    → trials_after scenario input (first + further) (all - further)
    ≡ trial_after scenario input (first + further) ∷ trials_after scenario input (first + (further + 1)) (all - (further + 1))
next_trial scenario input first further all within =
    first_trial scenario input (first + further) (all - further) (all - (further + 1)) (omega (arith, within))
    ∙ ap (λ at. trial_after scenario input (first + further) ∷ trials_after scenario input at (all - (further + 1))) (omega arith)

-- none is left
pub no_trial : (scenario : Scenario) (input : Input) (at n : ℕ) → n ≡ 0 → trials_after scenario input at n ≡ []
no_trial scenario input at n none = rw none refl

-- all are
pub all_trials : (scenario : Scenario) (input : Input) (first all further : ℕ) → further ≡ 0
    → trials_after scenario input first all ≡ trials_after scenario input (first + further) (all - further)
all_trials scenario input first all further none =
    ap (λ at. trials_after scenario input at all) (omega (arith, none))
    ∙ ap (λ n. trials_after scenario input (first + further) n) (omega (arith, none))

-- the steps of one trial more
pub own_more : (first n steps made own : ℕ) → own ≤ own_steps first n steps → made + (first + n) ≤ steps
    → own + made ≤ own_steps first (n + 1) steps
unfolding own_steps
own_more first n steps made own so_far more = rw add-one (omega (arith, so_far, more))
