-- What is seen of the steps of a run, whatever that is: what it puts out, or its notes.
use Rattle.std.specs.Prelude.{ℕ, zero, suc, nat_lt, Option, List, map, if◌then◌else◌}
use Rattle.rope.specs.Places.{Words}
use Rattle.feed.specs.declared.entry.Plain.{Plain}
use Rattle.cpu.specs.declared.next_step.NextStep.{NextStep}
use Rattle.cpu.specs.declared.output.Output.{Output}
use Rattle.cpu.specs.Next.{next}
use Rattle.cpu.specs.NextStep.{next_step}
use Rattle.cpu.specs.Run.{run}
use Rattle.cpu.specs.State.{Scenario, State}
use Rattle.whatif.specs.Trials.{tried}

-- what is seen with a step more, by the state before it, what it is, and what it puts out
abbrev pub More : Type 0 → Type 0
More A = Words → State → NextStep → Option Output → A → A

abbrev pub step_more : {A : Type 0} → More A → Scenario → State → A → A
step_more more scenario s a = more scenario.rope s (next_step scenario s) (next scenario s).1 a

-- what is seen of n steps, of which those after so many are looked at, as if none were before them
unfoldable pub looked : {A : Type 0} → A → More A → ℕ → Scenario → ℕ → A
looked begun more from scenario zero = begun
looked begun more from scenario (suc n) =
    if nat_lt n from then begun else step_more more scenario (run scenario n) (looked begun more from scenario n)

-- what the run of so many steps comes to, and what it does with each of some inputs alone, with the cycle of each
abbrev pub came : {A C : Type 0} → (State → A → C) → A → More A → ℕ → Scenario → ℕ → C
came comes begun more from scenario steps = comes (run scenario steps) (looked begun more from scenario steps)

abbrev pub came_with : {A C : Type 0} → (State → A → C) → A → More A → ℕ → Scenario → ℕ → Plain → ℕ × C
came_with comes begun more from scenario steps t = (t.cycle, came comes begun more from (tried scenario t) steps)

abbrev pub all_came : {A C : Type 0} → (State → A → C) → A → More A → ℕ → Scenario → ℕ → List Plain → List (ℕ × C)
all_came comes begun more from scenario steps trials = map (came_with comes begun more from scenario steps) trials
