-- Routines in progress, as the states of a run are looked at one after another.
use Rattle.std.specs.Prelude.{◌≡◌, ℕ, ◌+◌, ◌-◌, ◌^◌, min, List}
use Rattle.cpu.specs.State.{State, Scenario}
use Rattle.debugger.specs.Routines.{stepped, stepped_inside}
use Rattle.debugger.specs.declared.routines.Call.{Call}

-- how many steps were looked at, and the calls before the next one: those that no interrupt entered, and those that the one entered that is
-- served
pub record Follower : Type 0 where
  pub steps : ℕ
  pub outer : List Call
  pub inner : List Call

-- a state was looked at: one step more, as far as a count of 64 bits goes, and the calls after that step
pub record HasFollowed (scenario : Scenario) (s : State) (old new : Follower) : Type 0 where
  pub counted : new.steps ≡ min (old.steps + 1) (2 ^ 64 - 1)
  pub outside : new.outer ≡ stepped scenario new.steps s old.outer
  pub inside : new.inner ≡ stepped_inside scenario new.steps s old.inner
