-- Runs that are given the same inputs come to the same.
use Rattle.std.proofs.Common.{◌≡◌, ℕ, zero, suc, ◌<◌, List, ltb, refl, ap, ◌∙◌, arith, inl, inr}
use Rattle.std.proofs.lemmas.Bool.{cases_Bool}
use Rattle.feed.specs.Merged.{due}
use Rattle.feed.specs.declared.entry.Entry.{Entry}
use Rattle.cpu.specs.Next.{entry, next, next_by}
use Rattle.cpu.specs.NextStep.{next_step, next_step_by}
use Rattle.cpu.specs.Run.{run}
use Rattle.cpu.specs.State.{Scenario, State}
use Rattle.whatif.specs.Looked.{More, looked, step_more}

-- in each of the first n steps of a run another list of inputs gives the same
abbrev pub AreGivenSame : Scenario → List Entry → ℕ → Type 0
AreGivenSame scenario other n = (j : ℕ) → j < n
    → due other (run scenario j).taken (run scenario j).cycles ≡ due scenario.inputs (run scenario j).taken (run scenario j).cycles

next_alike : (scenario : Scenario) (other : List Entry) (s : State) → due other s.taken s.cycles ≡ due scenario.inputs s.taken s.cycles
    → next (record scenario { inputs = other }) s ≡ next scenario s
unfolding next
next_alike scenario other s same = ap (λ o. next_by scenario.rope s o (entry s)) same

pub step_alike : (scenario : Scenario) (other : List Entry) (s : State) → due other s.taken s.cycles ≡ due scenario.inputs s.taken s.cycles
    → next_step (record scenario { inputs = other }) s ≡ next_step scenario s
unfolding next_step
step_alike scenario other s same = ap (λ o. next_step_by scenario.rope s o (entry s)) same

more_alike : {A : Type 0} (more : More A) (scenario : Scenario) (other : List Entry) (s : State) (a : A)
    → due other s.taken s.cycles ≡ due scenario.inputs s.taken s.cycles
    → step_more more (record scenario { inputs = other }) s a ≡ step_more more scenario s a
more_alike more scenario other s a same =
    ap (λ t. more scenario.rope s t (next (record scenario { inputs = other }) s).1 a) (step_alike scenario other s same)
    ∙ ap (λ p. more scenario.rope s (next_step scenario s) p.1 a) (next_alike scenario other s same)

pub runs_alike : (scenario : Scenario) (other : List Entry) (n : ℕ) → AreGivenSame scenario other n
    → run (record scenario { inputs = other }) n ≡ run scenario n
unfolding run
runs_alike scenario other zero same = refl
runs_alike scenario other (suc n) same =
    ap (λ s. (next (record scenario { inputs = other }) s).0) (runs_alike scenario other n (λ j less. same j (omega arith)))
    ∙ ap (λ p. p.0) (next_alike scenario other (run scenario n) (same n (omega arith)))

pub looked_alike : {A : Type 0} (begun : A) (more : More A) (from : ℕ) (scenario : Scenario) (other : List Entry) (n : ℕ)
    → AreGivenSame scenario other n → looked begun more from (record scenario { inputs = other }) n ≡ looked begun more from scenario n
unfolding looked
looked_alike begun more from scenario other zero same = refl
looked_alike begun more from scenario other (suc n) same =
    let before : AreGivenSame scenario other n = λ j less. same j (omega arith) in
    elim (cases_Bool (ltb n from)) [
      | inl holds ↦ rw holds refl
      | inr fails ↦
          rw fails
          (ap (λ s. step_more more (record scenario { inputs = other }) s (looked begun more from (record scenario { inputs = other }) n))
          (runs_alike scenario other n before)
          ∙ ap (λ a. step_more more (record scenario { inputs = other }) (run scenario n) a)
          (looked_alike begun more from scenario other n before)
          ∙ more_alike more scenario other (run scenario n) (looked begun more from scenario n) (same n (omega arith)))
    ]
