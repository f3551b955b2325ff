-- What is told of two runs: of each first difference a line, and then a line of the trace of each run; and where that is asked for, how
-- what differs came about.
use Rattle.std.specs.Prelude.{◌≡◌, ℕ, zero, suc, ◌-◌, ◌==◌, ◌||◌, Bool, true, false, List, [], ◌++◌, Option, None, Some, codes, decimal}
use Rattle.std.specs.Prelude.{if◌then◌else◌}
use Rattle.std.specs.Option.{option_map}
use Rattle.words.specs.Numbers.{correct}
use Rattle.words.specs.Numerals.{octal_text}
use Rattle.space.specs.Cells.{accumulator, return_address}
use Rattle.symbols.specs.Values.{SymbolTable}
use Rattle.cpu.specs.Run.{run}
use Rattle.cpu.specs.State.{Scenario, State}
use Rattle.trace.specs.TraceLines.{cell_name, trace_line}
use Rattle.differ.specs.declared.causes.Followed.{Followed}
use Rattle.differ.specs.declared.outputs.OutputsApart.{OutputsApart}
use Rattle.differ.specs.declared.states.CellApart.{CellApart}
use Rattle.differ.specs.declared.text.NamedRun.{NamedRun}
use Rattle.differ.specs.Causes.{first_read, followed, from_steps, last_writer, same_text, step_start, way_text}
use Rattle.differ.specs.MainSteps.{first_step}
use Rattle.differ.specs.Outputs.{first_output}
use Rattle.differ.specs.States.{first_state}

-- a run, with the symbols that name its places
pub record Named : Type 0 where
  pub symbols : SymbolTable
  pub scenario : Scenario

abbrev pub named : NamedRun → Named
named r = record { symbols = r.names; scenario = r.processor.scenario }

-- a run keeps what it is, however far it is made
pub record Keeps (old new : NamedRun) : Type 0 where
  pub names : new.names ≡ old.names
  pub scenario : new.processor.scenario ≡ old.processor.scenario

-- the line of step n of a run, as its trace has it, with or without what the step reads
unfoldable pub step_line : Bool → Named → ℕ → List ℕ
step_line reads r n = trace_line reads r.symbols r.scenario n (run r.scenario (n - 1))

-- the same, of a step that there may not be
abbrev pub line_of : Bool → Named → Option ℕ → List ℕ
line_of reads r None = codes "NONE\n"
line_of reads r (Some n) = step_line reads r n

-- ## How a word came about
-- what is followed on from two steps that wrote a cell: where they are the same, what they read
abbrev pub before : Named → ℕ → State
before r n = run r.scenario (n - 1)

abbrev pub same_way : Named → Named → ℕ → ℕ → Bool
same_way one other a b =
    same_text (way_text one.symbols one.scenario (before one a)) (way_text other.symbols other.scenario (before other b))

unfoldable pub followed_on : Named → Named → ℕ → ℕ → ℕ → Option Followed
followed_on one other c a b = if same_way one other a b
    then option_map (followed (a - 1) (b - 1)) (first_read one.scenario other.scenario (before one a) (before other b) c) else None

-- the same, where both runs have such a step
abbrev pub next_of : Named → Named → ℕ → Option ℕ → Option ℕ → Option Followed
next_of one other c None b = None
next_of one other c (Some a) None = None
next_of one other c (Some a) (Some b) = followed_on one other c a b

-- the cell that is told, and the steps at which what is told ends
abbrev pub why_line : SymbolTable → ℕ → List ℕ
why_line symbols c = codes "WHY " ++ cell_name symbols c ++ codes "\n"

abbrev pub number_text : Option ℕ → List ℕ
number_text None = codes "START"
number_text (Some n) = decimal n

abbrev pub part_line : Option ℕ → Option ℕ → List ℕ
part_line a b = codes "PART AT " ++ number_text a ++ codes " WITH " ++ number_text b ++ codes "\n"

abbrev pub end_by : Option ℕ → Option ℕ → Option Followed → List ℕ
end_by a b None = part_line a b
end_by a b (Some f) = []

-- the steps of two runs that wrote a cell last, with what they read
abbrev pub writers_part : Named → Named → ℕ → Option ℕ → Option ℕ → List ℕ
writers_part one other c a b =
    (why_line one.symbols c ++ (line_of true one a ++ line_of true other b)) ++ end_by a b (next_of one other c a b)

unfoldable pub link_part : Named → Named → Followed → List ℕ
link_part one other f = writers_part one other f.cell (last_writer one.scenario f.cell f.here) (last_writer other.scenario f.cell f.there)

unfoldable pub next_after : Named → Named → Followed → Option Followed
next_after one other f = next_of one other f.cell (last_writer one.scenario f.cell f.here) (last_writer other.scenario f.cell f.there)

-- at most so many such pairs, from a cell back
abbrev pub rest_by : (Followed → List ℕ) → Option Followed → List ℕ
rest_by later None = []
rest_by later (Some f) = later f

unfoldable pub why_text : Named → Named → ℕ → Followed → List ℕ
why_text one other zero f = codes "MORE\n"
why_text one other (suc k) f = link_part one other f ++ rest_by (why_text one other k) (next_after one other f)

-- the same, where it is asked for and there is such a cell
abbrev pub why_part : Named → Named → Option ℕ → Option Followed → List ℕ
why_part one other None start = []
why_part one other (Some k) start = rest_by (why_text one other k) start

-- ## What differs first
-- what the runs never differ in
abbrev pub none_line : List ℕ → ℕ → List ℕ
none_line what n = codes "NO " ++ what ++ codes " DIFFERS IN " ++ decimal n ++ codes " STEPS\n"

abbrev pub output_line : ℕ → List ℕ
output_line number = codes "FIRST OUTPUT " ++ decimal number ++ codes "\n"

-- the cell of a word on a channel, where both runs put one out
abbrev pub output_start : Named → Named → Option ℕ → Option ℕ → Option Followed
output_start one other None b = None
output_start one other (Some a) None = None
output_start one other (Some a) (Some b) = from_steps one.scenario other.scenario a b

abbrev pub output_part : Named → Named → ℕ → Option ℕ → Option OutputsApart → List ℕ
output_part one other n why None = none_line (codes "OUTPUT") n
output_part one other n why (Some a) =
    (output_line a.number ++ (line_of false one a.here ++ line_of false other a.there))
    ++ why_part one other why (output_start one other a.here a.there)

-- what is read at a cell: 16 bits at A and Q, elsewhere a word
abbrev pub reading_text : ℕ → ℕ → List ℕ
reading_text c x = if c == accumulator || c == return_address then octal_text 6 x else octal_text 5 (correct x)

abbrev pub state_line : SymbolTable → CellApart → List ℕ
state_line symbols a =
    codes "FIRST STATE " ++ cell_name symbols a.cell ++ codes " " ++ reading_text a.cell a.here ++ codes " WITH "
    ++ reading_text a.cell a.there ++ codes "\n"

abbrev pub state_part : Named → Named → ℕ → Option ℕ → Option CellApart → List ℕ
state_part one other n why None = none_line (codes "STATE") n
state_part one other n why (Some a) =
    (state_line one.symbols a ++ (step_line false one a.step ++ step_line false other a.step))
    ++ why_part one other why (Some (followed a.step a.step a.cell))

abbrev pub step_part : Named → Named → ℕ → Option ℕ → Option (ℕ × ℕ) → List ℕ
step_part one other n why None = none_line (codes "STEP") n
step_part one other n why (Some steps) =
    (codes "FIRST STEP\n" ++ (step_line false one steps.0 ++ step_line false other steps.1))
    ++ why_part one other why (step_start one.scenario other.scenario steps.0 steps.1)

-- of the first n steps of two runs; with at most so many steps of each behind each difference, where they are asked for
unfoldable pub differ_text : Named → Named → ℕ → Option ℕ → List ℕ
differ_text one other n why =
    output_part one other n why (first_output one.scenario other.scenario n)
    ++ (state_part one other n why (first_state one.scenario other.scenario n)
    ++ step_part one other n why (first_step one.scenario other.scenario n))
