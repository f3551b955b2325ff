-- Which notes a run has with an input that comes after some of its steps, and which it then has no longer.
use Rattle.std.specs.Prelude.{ℕ, ◌+◌, ◌-◌, List}
use Rattle.yayul.specs.Named.{Named}
use Rattle.feed.specs.declared.input.Input.{Input}
use Rattle.cpu.specs.State.{Scenario}
use Rattle.whatif.specs.Changes.{trials_text}
use Rattle.whatif.specs.Here.{own_steps, trials_after}

-- of a run of so many steps the notes of those after `since`, and what an input changes that comes after `first` of them, or after one of
-- so many more, at the cycles there, after all others of its cycle
unfoldable pub noted_here : Named → ℕ → Scenario → ℕ → ℕ → Input → ℕ → List ℕ
noted_here named since scenario first more input steps = trials_text named since scenario (trials_after scenario input first (more + 1)) steps

-- the run without one, the way to the last of the trials, and these
abbrev pub most_noted : ℕ → ℕ → ℕ → ℕ → ℕ
most_noted since first more steps = (steps - since) + (((first + more) - since) + own_steps first (more + 1) steps)
