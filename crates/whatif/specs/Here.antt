-- What is told of an input that comes where a run stands, or at each of some steps.
use Rattle.std.specs.Prelude.{ℕ, zero, suc, ◌+◌, ◌-◌, List, map}
use Rattle.std.specs.List.{range_with_len}
use Rattle.feed.specs.declared.entry.Plain.{Plain}
use Rattle.feed.specs.declared.input.Input.{Input}
use Rattle.cpu.specs.Run.{run}
use Rattle.cpu.specs.State.{Scenario}
use Rattle.whatif.specs.Spans.{trials_text}
use Rattle.whatif.specs.Trials.{trial_at}
use Rattle.whatif.specs.declared.others.Others.TheVariants.{First}

-- an input at the cycles after each of n numbers of steps, from one on
abbrev pub trial_after : Scenario → Input → ℕ → Plain
trial_after scenario input t = trial_at (run scenario t) input

abbrev pub trials_after : Scenario → Input → ℕ → ℕ → List Plain
trials_after scenario input first n = map (trial_after scenario input) (range_with_len first n)

-- of a run of so many steps, and of one with an input more, which comes after `first` of them, or after one of so many more, at the
-- cycles there, after all others of its cycle: the steps after `first` are looked at, and of the other words the first is told
unfoldable pub here_text : Scenario → ℕ → ℕ → Input → ℕ → List ℕ
here_text scenario first more input steps = trials_text First first scenario (trials_after scenario input first (more + 1)) steps

-- the steps of all trials, each from where it comes
unfoldable pub own_steps : ℕ → ℕ → ℕ → ℕ
own_steps first zero steps = 0
own_steps first (suc n) steps = own_steps first n steps + (steps - (first + n))

-- the run without one, the way from the first to the last, and the trials
abbrev pub most_steps : ℕ → ℕ → ℕ → ℕ
most_steps first more steps = (steps - first) + (more + own_steps first (more + 1) steps)
