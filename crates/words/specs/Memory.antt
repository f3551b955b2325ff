-- What is seen of readers and writers over memory.
use Rattle.std.specs.Prelude.{ℕ, List}

-- a writer: the bytes that were written, and the count of failures
pub record Sink : Type 0 where
  pub written : List ℕ
  pub failures : ℕ

-- a reader: the bytes that are left, and the count of failures
pub record Source : Type 0 where
  pub left : List ℕ
  pub failures : ℕ
