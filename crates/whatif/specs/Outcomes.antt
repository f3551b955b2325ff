-- What comes of a run, beside the words that another has put out.
use Rattle.std.specs.Prelude.{ℕ, ◌+◌, ◌==◌, ◌&&◌, ◌||◌, not, Bool, true, false, List, [], ◌∷◌, ◌++◌, Option, None, Some}
use Rattle.std.specs.Prelude.{slice_get, if◌then◌else◌}
use Rattle.std.specs.Cmp.Lexicographic.{pointwise}
use Rattle.space.specs.Cells.{return_address}
use Rattle.space.specs.declared.place.Linear.{Linear}
use Rattle.space.specs.declared.place.Linear.TheVariants.{Erasable, Fixed}
use Rattle.cpu.specs.declared.output.Output.{Output}
use Rattle.cpu.specs.declared.next_step.NextStep.{NextStep}
use Rattle.cpu.specs.declared.next_step.NextStep.TheVariants.{Takes, Enters, Executes}
use Rattle.cpu.specs.Effects.{next_address, place_in}
use Rattle.cpu.specs.NextStep.{next_step}
use Rattle.cpu.specs.State.{Scenario, State}
use Rattle.whatif.specs.declared.sent.Sent.{Sent}
use Rattle.whatif.specs.Looked.{More, looked, step_more}

-- two words on channels are the same
abbrev pub is_equal : Sent → Sent → Bool
is_equal a b = a.channel == b.channel && a.word == b.word

abbrev pub are_same : List Sent → List Sent → Bool
are_same = pointwise is_equal

-- what comes of a run: how many of the words that it puts out first are those of the other, its words from the first other one on, and
-- whether it has executed an instruction in erasable memory
pub record Outcome : Type 0 where
  pub alike : ℕ
  pub others : List Sent
  pub strays : Bool

-- of no step
abbrev pub begun : Outcome
begun = record { alike = 0; others = []; strays = false }

-- two runs come to the same
abbrev pub is_same_flag : Bool → Bool → Bool
is_same_flag true b = b
is_same_flag false b = not b

abbrev pub is_same : Outcome → Outcome → Bool
is_same a b = (a.alike == b.alike && is_same_flag a.strays b.strays) && are_same a.others b.others

-- all words so far are those of the other run, and this is its next one
abbrev pub is_none : List Sent → Bool
is_none [] = true
is_none (w ∷ ws) = false

abbrev pub is_that : Sent → Option Sent → Bool
is_that w None = false
is_that w (Some next) = is_equal next w

abbrev pub is_next : List Sent → Outcome → Sent → Bool
is_next base a w = is_none a.others && is_that w (slice_get base a.alike)

-- a word more
abbrev pub with_word : List Sent → Outcome → Sent → Outcome
with_word base a w =
    if is_next base a w then record a { alike = a.alike + 1 }
    else record a { others = a.others ++ w ∷ [] }

abbrev pub sent : Output → Sent
sent o = record { channel = o.channel; word = o.word }

abbrev pub with_put : List Sent → Outcome → Option Output → Outcome
with_put base a None = a
with_put base a (Some o) = with_word base a (sent o)

-- a step more, which strays or not
abbrev pub with_step : Outcome → Bool → Outcome
with_step a strays = record a { strays = a.strays || strays }

-- an instruction is executed, and not one that waited
abbrev pub is_executed : NextStep → Bool
is_executed (Takes input) = false
is_executed (Enters interrupt) = false
is_executed (Executes fetched) = not fetched.waited

abbrev pub executes : Scenario → State → Bool
executes scenario s = is_executed (next_step scenario s)

-- a place is one of erasable memory, but Q, where RETURN leads
abbrev pub is_in_erasable : Linear → Bool
is_in_erasable (Erasable p) = not (p == return_address)
is_in_erasable (Fixed bank offset) = false

-- the first address of the switched banks of fixed memory, behind those of erasable memory
abbrev pub first_switched : ℕ
first_switched = 0o2000

-- an instruction is executed in erasable memory
abbrev pub strays : Scenario → State → Bool
strays scenario s = is_in_erasable (place_in s (next_address s)) && executes scenario s

-- what comes of one step more
abbrev pub see : List Sent → More Outcome
see base rope s step put a = with_put base (with_step a (is_in_erasable (place_in s (next_address s)) && is_executed step)) put

abbrev pub seen : List Sent → Scenario → State → Outcome → Outcome
seen base scenario s a = step_more (see base) scenario s a

-- what comes of n steps, of which those after so many are looked at
abbrev pub outcome : List Sent → ℕ → Scenario → ℕ → Outcome
outcome base from scenario n = looked begun (see base) from scenario n
