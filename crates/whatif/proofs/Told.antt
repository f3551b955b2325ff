-- What is told of trials, one after another.
use Rattle.std.proofs.Common.{◌≡◌, ℕ, ◌+◌, ◌≤◌, List, [], ◌∷◌, ◌++◌, Option, Some, None, refl, arith, inl, inr}
use Rattle.std.proofs.lemmas.Bool.{cases_Bool}
use Rattle.feed.specs.declared.entry.Plain.{Plain}
use Rattle.cpu.specs.Run.{run}
use Rattle.cpu.specs.State.{Scenario, State}
use Rattle.notes.specs.declared.noted.Note.{Note}
use Rattle.yayul.specs.Named.{Named}
use Rattle.whatif.specs.declared.others.Others.{Others}
use Rattle.whatif.specs.declared.span.Span.{Span}
use Rattle.whatif.specs.Changes.{changes, notes_of}
use Rattle.whatif.specs.Finishes.{finishes}
use Rattle.whatif.specs.Looked.{More, all_came, came_with}
use Rattle.whatif.specs.Outcomes.{Outcome, outcome}
use Rattle.whatif.specs.Spans.{spans_text, telling, trials_text, without_text}
use Rattle.whatif.specs.Together.{Joins, Tells, closed, number_of, open_text, opened, told_together}

-- those that are left, of which this is the next
pub next_told : {C : Type 0} (joins : Joins C) (tells : Tells C) (pending : Option (Span C)) (left more : List (ℕ × C)) (cycle : ℕ) (a : C)
    (tried : ℕ × C) → left ≡ tried ∷ more → cycle ≡ tried.0 → a ≡ tried.1
    → told_together joins tells pending left
    ≡ closed joins tells pending cycle a ++ told_together joins tells (Some (opened joins pending cycle a)) more
unfolding told_together
next_told joins tells pending left more cycle a tried is at out = rw (is, at, out) refl

-- and the span that is then open
pub span_told : {C : Type 0} (joins : Joins C) (tells : Tells C) (pending : Option (Span C)) (left more : List (ℕ × C)) (cycle : ℕ) (a : C)
    (tried : ℕ × C) (span : Span C) → left ≡ tried ∷ more → cycle ≡ tried.0 → a ≡ tried.1 → span ≡ opened joins pending cycle a
    → told_together joins tells pending left ≡ closed joins tells pending cycle a ++ told_together joins tells (Some span) more
span_told joins tells pending left more cycle a tried span is at out made = rw made
    (next_told joins tells pending left more cycle a tried is at out)

pub none_left : {C : Type 0} (joins : Joins C) (tells : Tells C) (pending : Option (Span C)) (left : List (ℕ × C)) → left ≡ []
    → told_together joins tells pending left ≡ open_text tells pending
unfolding told_together
none_left joins tells pending left is = rw is refl

-- what is left of trials
pub first_came : {A C : Type 0} (comes : State → A → C) (begun : A) (more : More A) (from : ℕ) (scenario : Scenario) (steps : ℕ)
    (left : List Plain) (t : Plain) (then : List Plain) → left ≡ t ∷ then
    → all_came comes begun more from scenario steps left
    ≡ came_with comes begun more from scenario steps t ∷ all_came comes begun more from scenario steps then
first_came comes begun more from scenario steps left t then is = rw is refl

pub none_came : {A C : Type 0} (comes : State → A → C) (begun : A) (more : More A) (from : ℕ) (scenario : Scenario) (steps : ℕ)
    (left : List Plain) → left ≡ [] → all_came comes begun more from scenario steps left ≡ []
none_came comes begun more from scenario steps left is = rw is refl

-- one trial more is open
few_open : {C : Type 0} (joins : Joins C) (pending : Option (Span C)) (cycle : ℕ) (a : C) (n : ℕ) → number_of pending ≤ n
    → (opened joins pending cycle a).count ≤ n + 1
few_open joins None cycle a n few = omega arith
few_open joins (Some span) cycle a n few =
    elim (cases_Bool (joins span cycle a)) [
      | inl holds ↦ rw holds (omega (arith, few))
      | inr fails ↦ rw fails (omega arith)
    ]

pub few_span : {C : Type 0} (joins : Joins C) (pending : Option (Span C)) (cycle : ℕ) (a : C) (span : Span C) (n : ℕ)
    → number_of pending ≤ n → span ≡ opened joins pending cycle a → span.count ≤ n + 1
few_span joins pending cycle a span n few made = rw made (few_open joins pending cycle a n few)

-- what is told of a run, and of trials
pub trials_parts : (others : Others) (from : ℕ) (scenario : Scenario) (trials : List Plain) (steps : ℕ) (s : State) (without : Outcome)
    → s ≡ run scenario steps → without ≡ outcome [] from scenario steps
    → trials_text others from scenario trials steps
    ≡ without_text s without ++ spans_text (telling others s) None (finishes without.others s.cells from scenario steps trials)
unfolding trials_text
trials_parts others from scenario trials steps s without at is = rw (at, is) refl
