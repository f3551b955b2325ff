-- What `whatif` takes: an input, as a line of a feed has it after its cycle, or a restart; a number of steps or none; and the steps at
-- which it is tried. Before an input the word `notes`, and since which step they count.
use Rattle.std.specs.Prelude.{ℕ, ◌-◌, nat_le, ◌&&◌, List, [], ◌∷◌, Option, None, Some, Result, Ok, Err, codes, if◌then◌else◌}
use Rattle.std.specs.Prelude.{option_and_then}
use Rattle.agc_text.specs.Tables.{same_name}
use Rattle.feed.specs.Statements.{short_input, long_input}
use Rattle.feed.specs.declared.fault.LineFault.{LineFault}
use Rattle.feed.specs.declared.fault.LineFault.TheVariants.{BadLine, WrongCounter}
use Rattle.feed.specs.declared.input.Input.{Input}
use Rattle.commands.specs.Commands.{count_in}
use Rattle.commands.specs.declared.command.ParsedLine.TheVariants as parsed
use Rattle.commands.specs.declared.extended.ExtendedLine.{ExtendedLine}
use Rattle.commands.specs.declared.extended.ExtendedLine.TheVariants.{Plain, WhatIf}
use Rattle.commands.specs.declared.whatif.Extent.{Extent}
use Rattle.commands.specs.declared.whatif.Extent.TheVariants.{Here, Each}
use Rattle.commands.specs.declared.whatif.Trial.TheVariants.{Given, Restart, Noted}

-- how many steps it goes on where no number is named
abbrev pub usual_steps : ℕ
usual_steps = 1000

-- so many steps on, at each step from one to another, of which there is one at least
abbrev pub each_in : Option ℕ → Option ℕ → Option ℕ → Option Extent
each_in (Some steps) (Some first) (Some last) = if nat_le first last then Some (Each steps first (last - first)) else None
each_in steps first last = None

abbrev pub here_in : Option ℕ → Option Extent
here_in None = None
here_in (Some steps) = Some (Here steps)

-- what stands after an input: nothing, so many steps, or `k from A to B`
abbrev pub extent_in : List (List ℕ) → Option Extent
extent_in [] = Some (Here usual_steps)
extent_in (steps ∷ []) = here_in (count_in steps)
extent_in (steps ∷ from ∷ first ∷ to ∷ last ∷ []) =
    if same_name from (codes "from") && same_name to (codes "to") then each_in (count_in steps) (count_in first) (count_in last) else None
extent_in fields = None

-- an input that is tried so, where it has its form
abbrev pub tried_in : Result Input LineFault → Option Extent → Option ExtendedLine
tried_in input None = None
tried_in (Ok input) (Some extent) = Some (WhatIf (Given input) extent)
tried_in (Err BadLine) (Some extent) = None
tried_in (Err WrongCounter) (Some extent) = Some (Plain parsed.WrongCounter)

-- three fields are a word on a channel
abbrev pub word_tried : List ℕ → List ℕ → List (List ℕ) → Option ExtendedLine
word_tried name channel [] = None
word_tried name channel (word ∷ more) = tried_in (long_input name channel word) (extent_in more)

abbrev pub input_tried : List ℕ → List (List ℕ) → Option ExtendedLine
input_tried name [] = None
input_tried name (first ∷ more) =
    if same_name name (codes "CHAN") then word_tried name first more else tried_in (short_input name first) (extent_in more)

-- a restart that is tried so
abbrev pub restart_tried : Option Extent → Option ExtendedLine
restart_tried None = None
restart_tried (Some extent) = Some (WhatIf Restart extent)

-- what is tried
abbrev pub trial_form : List (List ℕ) → Option ExtendedLine
trial_form [] = None
trial_form (name ∷ more) =
    if same_name name (codes "RESTART") then restart_tried (extent_in more) else input_tried name more

-- an input of which the notes are told: those since a step, or since it comes; of a restart none are
abbrev pub noted_of : Option ℕ → ExtendedLine → Option ExtendedLine
noted_of since (WhatIf (Given input) extent) = Some (WhatIf (Noted since input) extent)
noted_of since (WhatIf trial extent) = None
noted_of since request = Some request

abbrev pub noted_tried : Option ℕ → List (List ℕ) → Option ExtendedLine
noted_tried since fields = option_and_then (noted_of since) (trial_form fields)

-- a step since which, and what is tried
abbrev pub noted_since : List (List ℕ) → Option ExtendedLine
noted_since [] = None
noted_since (step ∷ more) = option_and_then (λ t. noted_tried (Some t) more) (count_in step)

-- the word `since` and a step, if any, and what is tried
abbrev pub notes_form : List (List ℕ) → Option ExtendedLine
notes_form [] = None
notes_form (word ∷ more) = if same_name word (codes "since") then noted_since more else noted_tried None (word ∷ more)

abbrev pub whatif_form : List (List ℕ) → Option ExtendedLine
whatif_form [] = None
whatif_form (word ∷ more) = if same_name word (codes "notes") then notes_form more else trial_form (word ∷ more)
