-- How a call of many steps ends.
use Rattle.std.specs.Prelude.{◌≡◌, ℕ, ◌+◌, ◌<◌, ◌≤◌, Bool, true, false}
use Rattle.replay.specs.Memory.{step_limit}
use Rattle.replay.specs.declared.stop.Stop.{Stop}
use Rattle.replay.specs.declared.stop.Stop.TheVariants.{All, Watcher, StepLimit, NoMemory}

-- whether the watcher ended it
abbrev pub is_by_watcher : Stop → Bool
is_by_watcher All = false
is_by_watcher Watcher = true
is_by_watcher StepLimit = false
is_by_watcher NoMemory = false

-- a call for k steps went from step low to step high, and ended so: after all of them; at a watcher's word, after one at least;
-- or short of them after one at least, at the step limit, or before it where a keeper may refuse
abbrev pub HasStopped : Bool → ℕ → ℕ → ℕ → Stop → Type 0
HasStopped may_refuse low k high All = high ≡ low + k
HasStopped may_refuse low k high Watcher = (low < high) × (high ≤ low + k)
HasStopped may_refuse low k high StepLimit = (low < high) × (high < low + k) × (high ≡ step_limit)
HasStopped may_refuse low k high NoMemory = (low < high) × (high < low + k) × (high < step_limit) × (may_refuse ≡ true)
