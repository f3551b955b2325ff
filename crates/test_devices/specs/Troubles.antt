-- When the devices for tests are in trouble, and what they answer then.
use Rattle.std.specs.Prelude.{◌≡◌, ℕ, ◌-◌, ◌<◌, Bool, false, ◌&&◌, ◌||◌, min, List, length, Option, Some, None, nat_eq, nat_lt, Result, Ok}
use Rattle.std.specs.Prelude.{Err, if◌then◌else◌}
use Rattle.std.specs.IoError.{error_kind}
use Rattle.std.specs.declared.io.Error.{Error}
use Rattle.std.specs.declared.io.ErrorKind.{ErrorKind}
use Rattle.std.specs.declared.io.ErrorKind.TheVariants.{Other, OutOfMemory}
use Rattle.test_devices.specs.declared.writer.Trouble.{Trouble}
use Rattle.test_devices.specs.declared.writer.Trouble.TheVariants.{Fails, TakesNothing}
use Rattle.test_devices.specs.Seen.{FaultySink}

-- the trouble comes now
abbrev pub is_due : Option ℕ → Bool
is_due None = false
is_due (Some left) = nat_eq left 0

-- what is left before the trouble, after one more; it comes once
abbrev pub one_nearer : Option ℕ → Option ℕ
one_nearer None = None
one_nearer (Some left) = if nat_eq left 0 then None else Some (left - 1)

-- the call failed, with an error of this kind
abbrev pub FailsAs : ErrorKind → Result ℕ Error → Type 0
FailsAs kind (Ok n) = ⊥
FailsAs kind (Err e) = error_kind e ≡ kind

-- what a write in trouble answers
abbrev pub IsTrouble : Trouble → Result ℕ Error → Type 0
IsTrouble Fails answer = FailsAs Other answer
IsTrouble TakesNothing answer = answer ≡ Ok 0

-- a write of some bytes meets the trouble
abbrev pub meets_trouble : FaultySink → List ℕ → Bool
meets_trouble sink bytes = nat_lt 0 (length bytes) && is_due sink.fails_after

-- a write takes one byte of some, unless there is no memory for it
abbrev pub TakesOne : List ℕ → Result ℕ Error → Type 0
TakesOne bytes (Ok n) = n ≡ min 1 (length bytes)
TakesOne bytes (Err e) = (0 < length bytes) × (error_kind e ≡ OutOfMemory)

-- a write took a byte
abbrev pub takes_some : Result ℕ Error → Bool
takes_some (Ok n) = nat_lt 0 n
takes_some (Err e) = false

-- what is left before the trouble after a write
abbrev pub left_after : FaultySink → List ℕ → Result ℕ Error → Option ℕ
left_after sink bytes answer =
    if meets_trouble sink bytes || takes_some answer then one_nearer sink.fails_after else sink.fails_after
