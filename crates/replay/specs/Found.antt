-- What is found of the steps of a run.
use Rattle.std.specs.Prelude.{◌≡◌, ℕ, ◌+◌, ◌<◌, Bool, true, false, Option, Some, None}
use Rattle.std.proofs.Common.{zero, suc}
use Rattle.cpu.specs.State.{State, Scenario}
use Rattle.cpu.specs.Run.{run}

-- what is found at a step, else what was found at another
abbrev pub or_other : ℕ → Option ℕ → Option (ℕ × ℕ) → Option (ℕ × ℕ)
or_other t None other = other
or_other t (Some x) other = Some (t, x)

-- the greatest of m steps from low on at which something is found, with this, or none
abbrev pub last_between : (ℕ → Option ℕ) → ℕ → ℕ → Option (ℕ × ℕ)
last_between find low zero = None
last_between find low (suc m) = or_other (low + m) (find (low + m)) (last_between find low m)

-- the greatest step below p
abbrev pub last_found : (ℕ → Option ℕ) → ℕ → Option (ℕ × ℕ)
last_found find zero = None
last_found find (suc t) = or_other t (find t) (last_found find t)

-- the least of so many steps from one on
abbrev pub first_found : (ℕ → Option ℕ) → ℕ → ℕ → Option (ℕ × ℕ)
first_found find from zero = None
first_found find from (suc count) = or_other from (find from) (first_found find (from + 1) count)

-- what a test finds of the step after t steps
abbrev pub found_by : (Scenario → State → Option ℕ) → Scenario → ℕ → Option ℕ
found_by finds scenario t = finds scenario (run scenario t)

-- at the states of the run before step p, what is answered is what is found of the step
abbrev pub FindsAs : (Scenario → State → Option ℕ → Type 0) → Scenario → ℕ → (ℕ → Option ℕ) → Type 0
FindsAs answers scenario p find = (t : ℕ) (r : Option ℕ) → t < p → answers scenario (run scenario t) r → r ≡ find t

-- what is found where something holds
abbrev pub found_if : Bool → Option ℕ
found_if true = Some 0
found_if false = None
