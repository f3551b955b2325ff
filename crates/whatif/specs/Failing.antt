-- Whether a write has failed.
use Rattle.std.specs.Prelude.{Bool, true, false, Result, Ok, Err}
use Rattle.whatif.specs.declared.fault.TrialFault.{TrialFault}
use Rattle.whatif.specs.declared.fault.TrialFault.TheVariants.{NoMemory, WriteFailed, TooMany, OutOfOrder}

abbrev pub is_write_failed : TrialFault → Bool
is_write_failed NoMemory = false
is_write_failed WriteFailed = true
is_write_failed TooMany = false
is_write_failed OutOfOrder = false

abbrev pub has_write_failed : {T : Type 0} → Result T TrialFault → Bool
has_write_failed (Ok x) = false
has_write_failed (Err fault) = is_write_failed fault
