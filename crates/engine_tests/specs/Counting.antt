-- What an observer has counted that counts outputs.
use Rattle.std.specs.Prelude.{◌≡◌, ℕ, ◌+◌, ◌^◌, ◌<◌, List, [], length}
use Rattle.std.specs.Option.{option_to_list}
use Rattle.cpu.specs.declared.output.Output.{Output}
use Rattle.replay.specs.declared.calls.Call.{Call}
use Rattle.replay.specs.declared.calls.Call.TheVariants.{Forward, Advance, Show, WithPresent, SeekBack, Add}
use Rattle.replay.specs.Calls.{Answer}
use Rattle.replay.specs.Calls.Answer.{Went}

-- some outputs more were counted, as far as 64 bits go
abbrev pub CountsOn : ℕ → List Output → ℕ → Type 0
CountsOn old outputs new = old + length outputs < 2 ^ 64 → new ≡ old + length outputs

-- the outputs that are told with an answer: those of many steps were watched before it
abbrev pub outputs_with : Answer → List Output
outputs_with (Went output) = option_to_list output
outputs_with answer = []

-- the call adds no input
abbrev pub AddsNothing : Call → Type 0
AddsNothing (Add cycle input) = ⊥
AddsNothing Forward = Unit {0}
AddsNothing (Advance k) = Unit {0}
AddsNothing (Show t) = Unit {0}
AddsNothing (WithPresent t) = Unit {0}
AddsNothing (SeekBack p) = Unit {0}
