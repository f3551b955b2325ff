-- The counts of a run, as they are kept: one for each number of what is counted, and what is kept at each account.
use Rattle.std.specs.Prelude.{◌≡◌, ℕ, ◌+◌, ◌*◌, ◌<◌, ◌≤◌, List, length, get_or}
use Rattle.cover.specs.Tallies.{account_count}
use Rattle.cpu.specs.NextStep.{next_step}
use Rattle.cpu.specs.State.{State, Scenario}
use Rattle.access.specs.declared.view.View.{View}
use Rattle.access.specs.Accesses.{slot_count, slots_after, slots_at, times, times_in}
use Rattle.access.specs.Below.{AreBelow}
use Rattle.access.specs.Levels.{entered_by, last_entered}
use Rattle.access.specs.Repeats.{AreFewKept, AreKept, Kept, owed}

-- what is counted, how often each, what is kept at each account, and the interrupt that was entered last
pub record Tallied : Type 0 where
  pub view : View
  pub counts : List ℕ
  pub kept : List Kept
  pub last : ℕ

-- how often a number was counted, with what is kept
abbrev pub sum_in : Tallied → ℕ → ℕ
sum_in t i = get_or t.counts i 0 + owed t.kept i

-- each number of a list was counted once more
pub record CountsMore (slots : List ℕ) (old new : Tallied) : Type 0 where
  pub view : new.view ≡ old.view
  pub each : length new.counts ≡ length old.counts
  pub all : length new.kept ≡ length old.kept
  pub sums : (i : ℕ) → sum_in new i ≡ sum_in old i + times_in i slots
  pub few : (most : ℕ) → AreFewKept old.kept most → AreFewKept new.kept (most + 1)

-- what the step after a state reads and writes was counted
pub record CountsStep (scenario : Scenario) (s : State) (old new : Tallied) : Type 0 where
  pub last : new.last ≡ entered_by (next_step scenario s) old.last
  pub known : AreBelow (slot_count old.view) (slots_after old.view scenario s old.last)
  pub short : length (slots_after old.view scenario s old.last) ≤ 18
  pub counts : CountsMore (slots_after old.view scenario s old.last) old new
  pub kept : AreKept old.view scenario.rope new.kept

-- the counts, with what is kept, are those of the first n steps of a run
pub record Keeps (view : View) (scenario : Scenario) (n : ℕ) (t : Tallied) : Type 0 where
  pub same : t.view ≡ view
  pub each : length t.counts ≡ slot_count view
  pub all : length t.kept ≡ account_count
  pub last : t.last ≡ last_entered scenario n
  pub sums : (i : ℕ) → sum_in t i ≡ times view scenario n i
  pub known : (t : ℕ) → t < n → AreBelow (slot_count view) (slots_at view scenario t)
  pub small : (i : ℕ) → times view scenario n i ≤ 18 * n
  pub kept : AreKept view scenario.rope t.kept
  pub few : AreFewKept t.kept n

-- the counts are those of the first n steps of a run, and nothing more is kept
pub record Counts (view : View) (scenario : Scenario) (n : ℕ) (t : Tallied) : Type 0 where
  pub keeps : Keeps view scenario n t
  pub settled : AreFewKept t.kept 0
  pub times : (i : ℕ) → get_or t.counts i 0 ≡ times view scenario n i
  pub known : (t : ℕ) → t < n → AreBelow (slot_count view) (slots_at view scenario t)
