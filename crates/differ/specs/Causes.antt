-- A cell that two runs do not have in common, followed back: the step of each run that wrote it last; and where both are the same
-- step, the first cell that it has read and that was not the same.
use Rattle.std.specs.Prelude.{ℕ, zero, suc, ◌+◌, ◌-◌, ◌==◌, ◌&&◌, ◌||◌, not, Bool, false, List, [], ◌∷◌, Option, None, Some, nat_eq}
use Rattle.std.specs.Prelude.{if◌then◌else◌}
use Rattle.std.specs.Cmp.Lexicographic.{pointwise}
use Rattle.std.specs.List.{flat_map}
use Rattle.std.specs.Option.{option_map, option_or}
use Rattle.rope.specs.Places.{Words}
use Rattle.space.specs.Cells.{Cells, program_counter}
use Rattle.space.specs.Places.{same_place}
use Rattle.symbols.specs.Values.{SymbolTable}
use Rattle.cpu.specs.declared.next_step.NextStep.{NextStep}
use Rattle.cpu.specs.declared.next_step.NextStep.TheVariants.{Takes, Enters, Executes}
use Rattle.cpu.specs.declared.spot.Spot.{Spot}
use Rattle.cpu.specs.declared.spot.Spot.TheVariants.{Cell, InRope}
use Rattle.cpu.specs.Links.{link, sources, targets, writes}
use Rattle.cpu.specs.NextStep.{next_step}
use Rattle.cpu.specs.Run.{run}
use Rattle.cpu.specs.State.{State, Scenario}
use Rattle.trace.specs.TraceLines.{fetched_text, input_text, interrupt_name}
use Rattle.differ.specs.declared.causes.Followed.{Followed}
use Rattle.differ.specs.States.{is_apart}

-- the last of the first n steps that wrote a cell
unfoldable pub last_writer : Scenario → ℕ → ℕ → Option ℕ
last_writer scenario c zero = None
last_writer scenario c (suc n) = if writes (link scenario (run scenario n)) c then Some (suc n) else last_writer scenario c n

-- ## Two steps are the same
-- what the step that follows a state is, wherever it stands: an input, the entry of an interrupt, or an instruction
abbrev pub way_by : SymbolTable → Words → State → NextStep → List ℕ
way_by symbols rope s (Takes input) = input_text input
way_by symbols rope s (Enters k) = interrupt_name k
way_by symbols rope s (Executes f) = fetched_text symbols rope s f

unfoldable pub way_text : SymbolTable → Scenario → State → List ℕ
way_text symbols scenario s = way_by symbols scenario.rope s (next_step scenario s)

-- the same text
abbrev pub same_text : List ℕ → List ℕ → Bool
same_text a b = pointwise nat_eq a b

-- ## Cells that are not the same
-- the first of some cells; but for Z, which tells where a step stands
abbrev pub is_followed : Cells → Cells → ℕ → Bool
is_followed here there c = not (c == program_counter) && is_apart here there c

unfoldable pub first_among : Cells → Cells → List ℕ → Option ℕ
first_among here there [] = None
first_among here there (c ∷ cs) = if is_followed here there c then Some c else first_among here there cs

-- the cells among spots
abbrev pub cell_at : Spot → List ℕ
cell_at (Cell c) = c ∷ []
cell_at (InRope bank offset) = []

abbrev pub cells_at : List Spot → List ℕ
cells_at xs = flat_map cell_at xs

-- the cells that the step after a state reads for one that it writes
abbrev pub cells_read : Scenario → State → ℕ → List ℕ
cells_read scenario s c = cells_at (sources (link scenario s) (Cell c))

-- the first cell that is not the same before two steps, of those that the one reads for a cell, or else of those that the other does
unfoldable pub first_read : Scenario → Scenario → State → State → ℕ → Option ℕ
first_read one other s t c =
    option_or (first_among s.cells t.cells (cells_read one s c)) (first_among s.cells t.cells (cells_read other t c))

-- the first that is not the same after two steps, of those that the one writes, or else of those that the other does
abbrev pub written_in : Scenario → ℕ → List ℕ
written_in scenario n = targets (link scenario (run scenario (n - 1)))

unfoldable pub first_written : Scenario → Scenario → ℕ → ℕ → Option ℕ
first_written one other a b =
    option_or (first_among (run one a).cells (run other b).cells (written_in one a))
    (first_among (run one a).cells (run other b).cells (written_in other b))

-- ## What is followed
-- a cell after so many steps of either run
abbrev pub followed : ℕ → ℕ → ℕ → Followed
followed here there c = record { here = here; there = there; cell = c }

-- what two runs have written in steps that part
unfoldable pub from_steps : Scenario → Scenario → ℕ → ℕ → Option Followed
from_steps one other a b = option_map (followed a b) (first_written one other a b)

-- whether two steps are instructions at other places
abbrev pub is_moved : NextStep → NextStep → Bool
is_moved (Executes f) (Executes g) = not (f.waited || (g.waited || same_place f.place g.place))
is_moved (Executes f) step = false
is_moved (Takes input) step = false
is_moved (Enters k) step = false

-- the same of steps outside of interrupts: where they stand at other places, what led there; else what they have written
unfoldable pub step_start : Scenario → Scenario → ℕ → ℕ → Option Followed
step_start one other a b =
    if is_moved (next_step one (run one (a - 1))) (next_step other (run other (b - 1)))
    then Some (followed (a - 1) (b - 1) program_counter) else from_steps one other a b
