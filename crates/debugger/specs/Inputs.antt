-- The inputs that were added, as lines of a feed.
use Rattle.std.specs.Prelude.{ℕ, ◌+◌, nat_le, List, [], ◌∷◌, ◌++◌, codes, decimal, if◌then◌else◌}
use Rattle.feed.specs.declared.entry.Entry.{Entry}
use Rattle.cpu.specs.State.{Scenario}
use Rattle.trace.specs.TraceLines.{input_text}
use Rattle.debugger.specs.Replies.{line}
use Rattle.debugger.specs.Terms.{plain_inputs}

-- an input as a line of a feed
abbrev pub input_line : Entry → List ℕ
input_line e = line (decimal e.cycle ++ codes " " ++ input_text e.input)

-- a line for each input that stands on this line or after it, and then a comment: how many there are, counted on from so many
abbrev pub lines_from : ℕ → ℕ → List Entry → List ℕ
lines_from first n [] = line (codes "# COUNT " ++ decimal n)
lines_from first n (e ∷ more) = if nat_le first e.line then input_line e ++ lines_from first (n + 1) more else lines_from first n more

-- the inputs of what runs that stand there, in order
unfoldable pub inputs_text : ℕ → Scenario → List ℕ
inputs_text first scenario = lines_from first 0 (plain_inputs scenario)
