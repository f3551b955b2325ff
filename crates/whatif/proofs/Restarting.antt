-- Runs that go on from a restart, and the restarts that are left.
use Rattle.std.proofs.Common.{◌≡◌, ℕ, zero, suc, ◌+◌, ◌-◌, ◌*◌, ◌^◌, ◌<◌, ◌≤◌, List, [], ◌∷◌, ◌++◌, None, refl, sym, ap, ◌∙◌}
use Rattle.std.proofs.Common.{add-one, arith}
use Rattle.space.specs.Cells.{Cells}
use Rattle.cpu.specs.Next.{next}
use Rattle.cpu.specs.Restarts.{restarted}
use Rattle.cpu.specs.Run.{run}
use Rattle.cpu.specs.State.{FitsRun, Scenario, State}
use Rattle.cpu.proofs.RunLaws.{cycles-next, cycles-run}
use Rattle.cpu.proofs.TakenLaws.{fits-next, run-fits}
use Rattle.whatif.specs.declared.finish.Finish.{Finish}
use Rattle.whatif.specs.declared.sent.Sent.{Sent}
use Rattle.whatif.specs.Finishes.{finish_of}
use Rattle.whatif.specs.Here.{own_steps}
use Rattle.whatif.specs.Outcomes.{Outcome, outcome, seen}
use Rattle.whatif.specs.Restarts.{finish_restarted, on_from, outcome_on, restart_after, restart_telling, restarted_at, restarts_after}
use Rattle.whatif.specs.Restarts.{restarts_text}
use Rattle.whatif.specs.Spans.{spans_text, without_text}

-- ## Steps on from a state
pub on_none : (scenario : Scenario) (s : State) → s ≡ on_from scenario s 0
unfolding on_from
on_none scenario s = refl

on_add_one : (scenario : Scenario) (s : State) (n : ℕ) → on_from scenario s (n + 1) ≡ (next scenario (on_from scenario s n)).0
unfolding on_from
on_add_one scenario s n = rw add-one refl

pub state_on : (scenario now : Scenario) (s t u : State) (n : ℕ) → now ≡ scenario → t ≡ on_from scenario s n → u ≡ (next now t).0
    → u ≡ on_from scenario s (n + 1)
state_on scenario now s t u n same is made = rw (on_add_one scenario s n) (rw (same, is) at made)

pub seen_none : (base : List Sent) (scenario : Scenario) (s : State) (a : Outcome) → a ≡ outcome_on base scenario s a 0
unfolding outcome_on
seen_none base scenario s a = refl

seen_add_one : (base : List Sent) (scenario : Scenario) (s : State) (a : Outcome) (n : ℕ)
    → outcome_on base scenario s a (n + 1) ≡ seen base scenario (on_from scenario s n) (outcome_on base scenario s a n)
unfolding outcome_on
seen_add_one base scenario s a n = rw add-one refl

pub seen_on : (base : List Sent) (scenario now : Scenario) (s t : State) (a b c : Outcome) (n : ℕ) → now ≡ scenario
    → t ≡ on_from scenario s n → b ≡ outcome_on base scenario s a n → c ≡ seen base now t b
    → c ≡ outcome_on base scenario s a (n + 1)
seen_on base scenario now s t a b c n same at of made = rw (seen_add_one base scenario s a n) (rw (same, at, of) at made)

pub fits_on : (scenario now : Scenario) (t u : State) → now ≡ scenario → u ≡ (next now t).0 → FitsRun scenario t → FitsRun scenario u
fits_on scenario now t u same made fits = rw (made, same) (fits-next scenario t fits)

pub cycles_on : (now : Scenario) (t u : State) (most n : ℕ) → u ≡ (next now t).0 → t.cycles ≤ most + 6 * n
    → u.cycles ≤ most + 6 * (n + 1)
cycles_on now t u most n made few = rw made (omega (arith, few, cycles-next now t))

-- ## Where a run is restarted
same_cycles : (s t : State) → t ≡ restarted s → t.cycles ≡ s.cycles
unfolding restarted
same_cycles s t is = ap (λ (v : State). v.cycles) is

pub early : (scenario : Scenario) (n : ℕ) (s t u : State) → s ≡ run scenario n → t ≡ s → u ≡ restarted t → n < 2 ^ 40
    → u.cycles ≤ 6 * 2 ^ 40
early scenario n s t u is copied made few =
    let at : u.cycles ≡ (run scenario n).cycles = same_cycles t u made ∙ ap (λ (v : State). v.cycles) (copied ∙ is) in
    omega (arith, at, cycles-run scenario n, few)

pub fits_there : (scenario : Scenario) (n : ℕ) (s t : State) → s ≡ run scenario n → t ≡ s → FitsRun scenario t
fits_there scenario n s t is copied = rw (copied, is) (run-fits scenario n)

-- how it comes out
pub comes_out : (base : List Sent) (without : Cells) (from : ℕ) (scenario : Scenario) (steps n : ℕ) (s t u v : State) (a b c : Outcome)
    (r : Finish)
    → s ≡ run scenario n → t ≡ s → u ≡ restarted t → v ≡ on_from scenario u (steps - n)
    → a ≡ outcome base from scenario n → b ≡ a → c ≡ outcome_on base scenario u b (steps - n) → r ≡ finish_of without v c
    → r ≡ finish_restarted base without from scenario steps n
comes_out base without from scenario steps n s t u v a b c r is copied made on before again seen is_finish =
    let at : u ≡ restarted_at scenario n = made ∙ ap restarted (copied ∙ is) in
    let first : v ≡ on_from scenario (restarted_at scenario n) (steps - n) = on
    ∙ ap (λ w. on_from scenario w (steps - n)) at in
    let then : c ≡ outcome_on base scenario (restarted_at scenario n) (outcome base from scenario n) (steps - n) = seen
    ∙ ap (λ w. outcome_on base scenario w b (steps - n)) at
    ∙ ap (λ o. outcome_on base scenario (restarted_at scenario n) o (steps - n)) (again ∙ before) in
    is_finish ∙ ap (λ w. finish_of without w c) first
    ∙ ap (λ o. finish_of without (on_from scenario (restarted_at scenario n) (steps - n)) o) then

-- ## Restarts at each of some steps
abbrev Left : List Sent → Cells → ℕ → Scenario → ℕ → ℕ → ℕ → List (ℕ × Finish)
Left base without from scenario steps at n = restarts_after base without from scenario steps at n

first_restart : (base : List Sent) (without : Cells) (from : ℕ) (scenario : Scenario) (steps at n m : ℕ) → n ≡ m + 1
    → Left base without from scenario steps at n
    ≡ restart_after base without from scenario steps at ∷ Left base without from scenario steps (at + 1) m
first_restart base without from scenario steps at zero m e = absurd (omega (arith, e))
first_restart base without from scenario steps at (suc n) m e =
    ap (λ i. restart_after base without from scenario steps at ∷ Left base without from scenario steps (at + 1) i) (omega (arith, e))

-- the next of those that are left
pub next_restart : (base : List Sent) (without : Cells) (from : ℕ) (scenario : Scenario) (steps first further all : ℕ) → further < all
    → restarts_after base without from scenario steps (first + further) (all - further)
    ≡ restart_after base without from scenario steps (first + further)
    ∷ restarts_after base without from scenario steps (first + (further + 1)) (all - (further + 1))
next_restart base without from scenario steps first further all within =
    first_restart base without from scenario steps (first + further) (all - further) (all - (further + 1)) (omega (arith, within))
    ∙ ap (λ at. restart_after base without from scenario steps (first + further)
    ∷ Left base without from scenario steps at (all - (further + 1))) (omega arith)

pub no_restart : (base : List Sent) (without : Cells) (from : ℕ) (scenario : Scenario) (steps at n : ℕ) → n ≡ 0
    → restarts_after base without from scenario steps at n ≡ []
no_restart base without from scenario steps at n none = rw none refl

pub all_restarts : (base : List Sent) (without : Cells) (from : ℕ) (scenario : Scenario) (steps first all further : ℕ) → further ≡ 0
    → restarts_after base without from scenario steps first all
    ≡ restarts_after base without from scenario steps (first + further) (all - further)
all_restarts base without from scenario steps first all further none =
    ap (λ at. Left base without from scenario steps at all) (omega (arith, none))
    ∙ ap (λ n. Left base without from scenario steps (first + further) n) (omega (arith, none))

pub restarts_parts : (scenario : Scenario) (first more steps : ℕ) (s : State) (without : Outcome) → s ≡ run scenario steps
    → without ≡ outcome [] first scenario steps
    → restarts_text scenario first more steps
    ≡ without_text s without
    ++ spans_text (restart_telling more) None (restarts_after without.others s.cells first scenario steps first (more + 1))
unfolding restarts_text
restarts_parts scenario first more steps s without at is = rw (at, is) refl

-- the way to a step, and the steps from there on
pub meter_more : (first further steps before meter done after : ℕ) → first + further ≤ steps
    → meter + first ≤ before + (done + own_steps first further steps) → after + done ≤ meter + steps
    → after + first ≤ before + ((first + further) + own_steps first (further + 1) steps)
unfolding own_steps
meter_more first further steps before meter done after within so_far more = rw add-one (omega (arith, within, so_far, more))
