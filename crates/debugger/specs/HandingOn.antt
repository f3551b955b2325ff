-- How often the lines of a long command are handed on. Only the contracts of the debugger's parts stand on this.
use Rattle.std.specs.Prelude.{◌≡◌, ℕ, ◌-◌, ◌^◌, ◌≤◌, Bool, true, false, List, nat_le, if◌then◌else◌}

-- the most steps that are made before lines are handed on
abbrev pub steps_between : ℕ
steps_between = 2 ^ 20

-- how many steps are left until then, after one more: after the last they are counted anew
abbrev pub steps_left_after : ℕ → ℕ
steps_left_after left = if nat_le left 1 then steps_between else left - 1

-- a step after which steps go on is counted, and where it was the last of those that were left, all lines are handed on
pub record HandsOn (told ended : Bool) (before after : ℕ) (handed_on written : List ℕ) : Type 0 where
  pub counts : ended ≡ false → after ≡ steps_left_after before
  pub all : told ≡ true → ended ≡ false → before ≤ 1 → handed_on ≡ written
