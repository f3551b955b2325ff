-- What is told of a restart where a run stands, or at each of some steps.
use Rattle.std.specs.Prelude.{ℕ, zero, suc, ◌+◌, ◌-◌, ◌^◌, ◌==◌, ◌++◌, List, [], map, None, if◌then◌else◌}
use Rattle.std.specs.List.{range_with_len}
use Rattle.space.specs.Cells.{Cells}
use Rattle.cpu.specs.Next.{next}
use Rattle.cpu.specs.Restarts.{restarted}
use Rattle.cpu.specs.Run.{run}
use Rattle.cpu.specs.State.{Scenario, State}
use Rattle.whatif.specs.declared.finish.Finish.{Finish}
use Rattle.whatif.specs.declared.others.Others.{Others}
use Rattle.whatif.specs.declared.others.Telling.{Telling}
use Rattle.whatif.specs.declared.others.Others.TheVariants.{All, First}
use Rattle.whatif.specs.declared.sent.Sent.{Sent}
use Rattle.whatif.specs.Finishes.{finish_of}
use Rattle.whatif.specs.Outcomes.{Outcome, outcome, seen}
use Rattle.whatif.specs.Spans.{spans_text, without_text}

-- the state n steps on from one
unfoldable pub on_from : Scenario → State → ℕ → State
on_from scenario s zero = s
on_from scenario s (suc n) = (next scenario (on_from scenario s n)).0

-- what has come of a run before, and then of n steps on from a state
unfoldable pub outcome_on : List Sent → Scenario → State → Outcome → ℕ → Outcome
outcome_on base scenario s before zero = before
outcome_on base scenario s before (suc n) = seen base scenario (on_from scenario s n) (outcome_on base scenario s before n)

-- where a run stands that is restarted after t steps
abbrev pub restarted_at : Scenario → ℕ → State
restarted_at scenario t = restarted (run scenario t)

-- how a run of so many steps comes out, beside another, that is restarted after t of them: the same inputs are still to come, and the
-- restart itself is no step
abbrev pub finish_restarted : List Sent → Cells → ℕ → Scenario → ℕ → ℕ → Finish
finish_restarted base without from scenario steps t =
    finish_of without (on_from scenario (restarted_at scenario t) (steps - t))
    (outcome_on base scenario (restarted_at scenario t) (outcome base from scenario t) (steps - t))

-- with the cycles at which it is restarted
abbrev pub restart_after : List Sent → Cells → ℕ → Scenario → ℕ → ℕ → ℕ × Finish
restart_after base without from scenario steps t = ((run scenario t).cycles, finish_restarted base without from scenario steps t)

-- a restart after each of n numbers of steps, from one on
abbrev pub restarts_after : List Sent → Cells → ℕ → Scenario → ℕ → ℕ → ℕ → List (ℕ × Finish)
restarts_after base without from scenario steps first n = map (restart_after base without from scenario steps) (range_with_len first n)

-- of one restart all other words are told, of several the first
abbrev pub restart_others : ℕ → Others
restart_others more = if more == 0 then All else First

-- a restart comes wherever a run stands: no run has so many cycles
abbrev pub restart_telling : ℕ → Telling
restart_telling more = record { others = restart_others more; end = 2 ^ 64 - 1 }

-- of a run of so many steps, and of it with a restart after `first` of them, or after one of so many more: the steps after `first` are
-- looked at
unfoldable pub restarts_text : Scenario → ℕ → ℕ → ℕ → List ℕ
restarts_text scenario first more steps =
    let s = run scenario steps in
    let without = outcome [] first scenario steps in
    without_text s without
    ++ spans_text (restart_telling more) None (restarts_after without.others s.cells first scenario steps first (more + 1))
