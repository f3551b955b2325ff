-- What a word comes from, and in which interrupts the steps stand that made it: over the whole chain of `why`, with no limit.
use Rattle.std.specs.Prelude.{◌≡◌, ℕ, ◌+◌, ◌==◌, Bool, true, false, List, [], ◌∷◌, ◌++◌, codes, decimal, Some, if◌then◌else◌}
use Rattle.std.specs.List.{flat_map}
use Rattle.rope.specs.Places.{Words}
use Rattle.symbols.specs.Values.{SymbolTable}
use Rattle.cpu.specs.NextStep.{next_step}
use Rattle.cpu.specs.Run.{run}
use Rattle.cpu.specs.State.{Scenario}
use Rattle.cpu.specs.declared.spot.Spot.{Spot}
use Rattle.trace.specs.TraceLines.{input_text}
use Rattle.commands.specs.declared.subject.Subject.{Subject}
use Rattle.origins.specs.Following.{cells_of}
use Rattle.origins.specs.Gathering.{Gathering, whole_chain}
use Rattle.origins.specs.Served.{entered_by, served}
use Rattle.origins.specs.declared.origin.Origin.{Origin}
use Rattle.origins.specs.declared.origin.Origin.TheVariants.{Taken, Fixed}
use Rattle.origins.specs.declared.origin.OriginLine.{OriginLine}
use Rattle.origins.specs.declared.tally.Tally.{Tally}
use Rattle.debugger.specs.Replies.{Desk, Reply, addition_to_come, line}
use Rattle.debugger.specs.WhatIfs.{tried_by}
use Rattle.debugger.specs.Whys.{end_text, fixed_text, last_outside, subject_spots}
use Rattle.debugger.specs.declared.origins_told.OriginKind.{OriginKind}
use Rattle.debugger.specs.declared.origins_told.OriginKind.TheVariants.{Inputs, FixedWords}

-- how many steps of the chain, and the first and the last of them
abbrev pub tally_text : Tally → List ℕ
tally_text t = codes " COUNT " ++ decimal t.count ++ codes " FIRST " ++ decimal t.first ++ codes " LAST " ++ decimal t.last

-- the line of an origin of a kind: an input as a feed has it, a place of fixed memory with its word
abbrev pub origin_text : SymbolTable → Words → OriginKind → Origin → Tally → List ℕ
origin_text symbols rope Inputs (Taken input) t = line (codes "INPUT " ++ input_text input ++ tally_text t)
origin_text symbols rope Inputs (Fixed bank offset) t = []
origin_text symbols rope FixedWords (Taken input) t = []
origin_text symbols rope FixedWords (Fixed bank offset) t = line (codes "FIXED" ++ fixed_text symbols rope bank offset ++ tally_text t)

abbrev pub origin_lines : SymbolTable → Words → OriginKind → List OriginLine → List ℕ
origin_lines symbols rope kind ls = flat_map (λ l. origin_text symbols rope kind l.origin l.tally) ls

-- that there were more lines than are told
abbrev pub more_line : Bool → List ℕ
more_line false = []
more_line true = line (codes "MORE LINES")

-- the inputs, those of the last steps first; the fixed words; the cells that no step wrote, with what they held at the start
abbrev pub gathered_text : SymbolTable → Words → Gathering → List ℕ
gathered_text symbols rope g =
    origin_lines symbols rope Inputs g.table.lines
    ++ (origin_lines symbols rope FixedWords g.table.lines
    ++ (end_text symbols false (cells_of g.followed) ++ more_line g.table.more))

-- the steps on a level, where there are any
abbrev pub level_name : ℕ → List ℕ
level_name k = if k == 0 then codes "OUTSIDE" else codes "INTERRUPT " ++ decimal k

abbrev pub level_text : ℕ → Tally → List ℕ
level_text k t = if t.count == 0 then [] else line (level_name k ++ tally_text t)

-- how many levels have a line
abbrev pub told_if : Tally → ℕ → ℕ
told_if t told = if t.count == 0 then told else told + 1

-- the lines of some levels from one on, and how many lines these are, with some before them
abbrev pub levels_from : ℕ → ℕ → List Tally → List ℕ
levels_from told k [] = line (codes "COUNT " ++ decimal told)
levels_from told k (t ∷ ts) = level_text k t ++ levels_from (told_if t told) (k + 1) ts

-- what stands at some spots after p steps
unfoldable pub inputs_told : SymbolTable → Scenario → ℕ → List Spot → List ℕ
inputs_told symbols scenario p xs = gathered_text symbols scenario.rope (whole_chain scenario p xs)

unfoldable pub interrupts_told : Scenario → ℕ → List Spot → List ℕ
interrupts_told scenario p xs = levels_from 0 0 (whole_chain scenario p xs).levels

-- this is told, or memory runs out
abbrev pub tells_inputs : SymbolTable → Subject → Desk → Reply
tells_inputs symbols subject d = tried_by (addition_to_come d.additions) d
    (inputs_told symbols d.scenario d.position (subject_spots subject))

abbrev pub tells_interrupts : Subject → Desk → Reply
tells_interrupts subject d = tried_by (addition_to_come d.additions) d (interrupts_told d.scenario d.position (subject_spots subject))

-- A step that `why` tells with IN STEP is told on the level of the interrupt that this step entered.
abbrev pub StandsAsTold : Scenario → ℕ → ℕ → Type 0
StandsAsTold scenario t u = (run scenario t).inside ≡ true → last_outside scenario t ≡ Some u
    → served scenario t ≡ entered_by (next_step scenario (run scenario u))
