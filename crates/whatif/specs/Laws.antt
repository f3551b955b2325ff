-- What is told of a run gives all its words.
use Rattle.std.specs.Prelude.{◌≡◌, ℕ, false, List, [], ◌∷◌, ◌++◌, map, take, Some, slice_get}
use Rattle.cpu.specs.Run.{outs}
use Rattle.cpu.specs.State.{Scenario}
use Rattle.whatif.specs.declared.sent.Sent.{Sent}
use Rattle.whatif.specs.Outcomes.{is_equal, outcome, sent}

-- so many of the words of the other run, and then the others, are all words that are put out
abbrev pub TellsAllWords : Scenario → Type 0
TellsAllWords scenario = (base : List Sent) (n : ℕ)
    → take (outcome base 0 scenario n).alike base ++ (outcome base 0 scenario n).others ≡ map sent (outs scenario n)

-- the first of the others is not what the other run puts out there
abbrev pub TellsTheFirstOther : Scenario → Type 0
TellsTheFirstOther scenario = (base : List Sent) (n : ℕ) (w next : Sent) (more : List Sent) → (outcome base 0 scenario n).others ≡ w ∷ more
    → slice_get base (outcome base 0 scenario n).alike ≡ Some next → is_equal next w ≡ false
