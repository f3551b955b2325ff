-- What is seen of an engine's readers and writers, which of them has failed, and how much was read, by an engine's answer.
use Rattle.std.specs.Prelude.{ℕ, ◌+◌, Bool, true, false, if◌then◌else◌, List, Result, Ok, Err}
use Rattle.words.specs.Devices.{one_more}
use Rattle.words.specs.declared.device.Read as read
use Rattle.words.specs.declared.device.Write as write
use Rattle.workshop.specs.declared.fault.WorkshopFault.{WorkshopFault}
use Rattle.workshop.specs.declared.fault.WorkshopFault.TheVariants.{NoMemory, ReadFailed, WriteFailed, TooLong}
use Rattle.feed.specs.Feed.{most_bytes}

-- a reader: whether it tells its bytes, those that are left, and its count of failures
pub record Reader : Type 0 where
  pub told : Bool
  pub left : List ℕ
  pub failures : ℕ

-- a writer: whether it tells its bytes, those that were written, and its count of failures
pub record Writer : Type 0 where
  pub told : Bool
  pub written : List ℕ
  pub failures : ℕ

-- what is seen of a device, by the ghost members of its type
abbrev pub reader : {D : Type 0} → read.Ghosts D → D → Reader
reader seen device = record { told = seen.told; left = seen.left device; failures = seen.failures device }

abbrev pub writer : {D : Type 0} → write.Ghosts D → D → Writer
writer seen device = record { told = seen.told; written = seen.written device; failures = seen.failures device }

-- the fault that a failed read gives
abbrev pub is_read_failed : WorkshopFault → Bool
is_read_failed ReadFailed = true
is_read_failed _ = false

abbrev pub has_read_failed : {T : Type 0} → Result T WorkshopFault → Bool
has_read_failed (Ok x) = false
has_read_failed (Err fault) = is_read_failed fault

-- the fault that a failed write gives
abbrev pub is_write_failed : WorkshopFault → Bool
is_write_failed WriteFailed = true
is_write_failed _ = false

abbrev pub has_write_failed : {T : Type 0} → Result T WorkshopFault → Bool
has_write_failed (Ok x) = false
has_write_failed (Err fault) = is_write_failed fault

-- a device's count of failures, which is one more where it has failed
abbrev pub failures_if : Bool → ℕ → ℕ
failures_if has_failed n = if has_failed then one_more n else n

-- the most bytes that may have been read of a source or of a feed: one more than it may have where it has too many, or where
-- memory ran out
abbrev pub most_read_before : WorkshopFault → ℕ
most_read_before NoMemory = most_bytes + 1
most_read_before TooLong = most_bytes + 1
most_read_before _ = most_bytes

abbrev pub most_read : {T : Type 0} → Result T WorkshopFault → ℕ
most_read (Ok x) = most_bytes
most_read (Err fault) = most_read_before fault
