-- The end of commands that are too long.
use Rattle.std.specs.Prelude.{ℕ, List, [], nat_lt, codes, if◌then◌else◌}
use Rattle.debugger.specs.Transcript.{most_command_bytes}

-- a reader with what it has left, how many of its calls failed, and how many bytes it has handed on
pub record Counting : Type 0 where
  pub left : List ℕ
  pub failures : ℕ
  pub bytes : ℕ

-- what is told after so many bytes of commands: where no more of them count, that they end
abbrev pub commands_end : ℕ → List ℕ
commands_end bytes = if nat_lt bytes most_command_bytes then [] else codes "agcws: commands end after 16777216 bytes\n"
