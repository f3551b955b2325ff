-- An input that is added to what runs.
use Rattle.std.specs.Prelude.{ℕ, ◌≡◌, ◌≤◌, None}
use Rattle.feed.specs.Added.{AddsLast}
use Rattle.feed.specs.Feed.{most_inputs}
use Rattle.feed.specs.CountsTaken.{number_from}
use Rattle.feed.specs.declared.input.Input.{Input}
use Rattle.cpu.specs.State.{Scenario, Processing}
use Rattle.cpu.specs.Run.{run, out, outs}

-- how many of the inputs are from no series
abbrev pub plain_inputs : Scenario → ℕ
plain_inputs scenario = number_from None scenario.inputs

-- the most of these
abbrev pub most_plain_inputs : ℕ
most_plain_inputs = most_inputs

-- A plain input is added on a line after all lines, and nothing else of a processor changes.
pub record AddsInput (cycle : ℕ) (input : Input) (old new : Processing) : Type 0 where
  pub rope : new.scenario.rope ≡ old.scenario.rope
  pub inputs : AddsLast old.scenario.inputs cycle input new.scenario.inputs
  pub meter : new.meter ≡ old.meter

-- Two runs come to the same after t steps: the state, the output of step t, and the outputs up to it.
pub record IsAlike (scenario other : Scenario) (t : ℕ) : Type 0 where
  pub state : run other t ≡ run scenario t
  pub output : out other t ≡ out scenario t
  pub outputs : outs other t ≡ outs scenario t

-- two runs come to the same after each step up to step n
abbrev pub AreAlikeUpTo : Scenario → Scenario → ℕ → Type 0
AreAlikeUpTo scenario other n = (t : ℕ) → t ≤ n → IsAlike scenario other t
