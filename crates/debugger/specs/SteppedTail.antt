-- The last outputs, each with the step that put it out.
use Rattle.std.specs.Prelude.{◌≡◌, ℕ, zero, suc, List, [], ◌∷◌, ◌++◌, length, map, codes, decimal, Option, None, Some}
use Rattle.std.specs.List.{flat_map}
use Rattle.cpu.specs.State.{Scenario}
use Rattle.cpu.specs.Run.{out, outs}
use Rattle.cpu.specs.ChannelLines.{channel_line}
use Rattle.cpu.specs.declared.output.Output.{Output}
use Rattle.debugger.specs.Replies.{last_of, line}

-- what a step puts out, with its number
abbrev pub numbered : ℕ → Option Output → List (ℕ × Output)
numbered number None = []
numbered number (Some output) = (number, output) ∷ []

-- what the first so many steps put out, each with the number of its step
unfoldable pub outputs_by_step : Scenario → ℕ → List (ℕ × Output)
outputs_by_step scenario zero = []
outputs_by_step scenario (suc n) = outputs_by_step scenario n ++ numbered (suc n) (out scenario (suc n))

-- the line of one: its step, and its channel line
abbrev pub stepped_line : ℕ × Output → List ℕ
stepped_line entry = codes "STEP " ++ decimal entry.0 ++ codes " " ++ channel_line entry.1

-- the lines of some, and how many they are
abbrev pub stepped_text : List (ℕ × Output) → List ℕ
stepped_text entries = flat_map stepped_line entries ++ line (codes "TAIL " ++ decimal (length entries))

-- those of the last so many outputs of n steps
unfoldable pub stepped_tail : Scenario → ℕ → ℕ → List ℕ
stepped_tail scenario n count = stepped_text (last_of count (outputs_by_step scenario n))

-- the line of a step, if it puts out
abbrev pub step_text : ℕ → Option Output → List ℕ
step_text number None = []
step_text number (Some output) = stepped_line (number, output)

-- what a search for a step that puts out finds of it
abbrev pub output_found : Option Output → Option ℕ
output_found None = None
output_found (Some output) = Some 0

-- each of some outputs is what the step of its number puts out
abbrev pub EachPutsOut : Scenario → List (ℕ × Output) → Type 0
EachPutsOut scenario [] = Unit {0}
EachPutsOut scenario (entry ∷ more) = (out scenario entry.0 ≡ Some entry.1) × EachPutsOut scenario more

-- The outputs with their steps are all outputs of the steps, in order, and each is that of its step.
pub record HaveTheirSteps (scenario : Scenario) (n : ℕ) : Type 0 where
  pub outputs : map (λ entry. entry.1) (outputs_by_step scenario n) ≡ outs scenario n
  pub steps : EachPutsOut scenario (outputs_by_step scenario n)
