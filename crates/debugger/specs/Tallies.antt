-- What is kept of the outputs of the steps that were made: the last of them, and how many they are.
use Rattle.std.specs.Prelude.{ℕ, ◌+◌, ◌-◌, ◌^◌, min, List, [], ◌∷◌, ◌++◌, length}
use Rattle.cpu.specs.declared.output.Output.{Output}
use Rattle.debugger.specs.Replies.{last_of, tail_length}

pub record Tally : Type 0 where
  pub last : List Output
  pub count : ℕ

-- the most that a number of 64 bits counts
abbrev pub most_counted : ℕ
most_counted = 2 ^ 64 - 1

-- of some outputs
abbrev pub tally_of : List Output → Tally
tally_of outputs = record { last = last_of tail_length outputs; count = min (length outputs) most_counted }

-- and of one more
abbrev pub with_output : Tally → Output → Tally
with_output tally output =
    record { last = last_of tail_length (tally.last ++ output ∷ []); count = min (tally.count + 1) most_counted }
