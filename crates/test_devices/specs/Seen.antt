-- What is seen of the devices for tests.
use Rattle.std.specs.Prelude.{ℕ, List, Option}
use Rattle.test_devices.specs.declared.writer.Trouble.{Trouble}

-- a reader that fails after so many calls: the bytes that are left, and the count of failures
pub record FaultySource : Type 0 where
  pub left : List ℕ
  pub fails_after : Option ℕ
  pub failures : ℕ

-- a writer in trouble after so many bytes: the bytes that were written, and the count of failures
pub record FaultySink : Type 0 where
  pub written : List ℕ
  pub fails_after : Option ℕ
  pub trouble : Trouble
  pub failures : ℕ
