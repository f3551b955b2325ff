-- Why the program came to a step: the last choice before it, and how what this was made by came to be what it was.
use Rattle.std.specs.Prelude.{ℕ, ◌+◌, ◌&&◌, ◌||◌, not, is_some, Bool, true, false, List, [], ◌∷◌, ◌++◌, Option, None, Some, codes, decimal}
use Rattle.std.specs.Prelude.{if◌then◌else◌}
use Rattle.words.specs.Signs.{over}
use Rattle.agc_text.specs.Tables.{same_name}
use Rattle.space.specs.Cells.{program_counter}
use Rattle.symbols.specs.Values.{SymbolTable}
use Rattle.cpu.specs.State.{State, Scenario}
use Rattle.cpu.specs.Run.{run}
use Rattle.cpu.specs.Codes.{code_of, row_of}
use Rattle.cpu.specs.Effects.{accumulator_of, has_overflow, next_address, place_in}
use Rattle.cpu.specs.Links.{Link, link, a, sources, writes}
use Rattle.cpu.specs.NextStep.{next_step}
use Rattle.cpu.specs.declared.next_step.Fetched.{Fetched}
use Rattle.cpu.specs.declared.next_step.NextStep.{NextStep}
use Rattle.cpu.specs.declared.next_step.NextStep.TheVariants.{Takes, Enters, Executes}
use Rattle.cpu.specs.declared.spot.Spot.{Spot}
use Rattle.cpu.specs.declared.spot.Spot.TheVariants.{Cell}
use Rattle.replay.specs.LastHit.{last_hit}
use Rattle.replay.specs.Whys.{last_writer}
use Rattle.commands.specs.declared.extended.IndexLines.TheVariants.{Omitted, Told}
use Rattle.commands.specs.declared.extended.LinkLines.{LinkLines}
use Rattle.debugger.specs.CallsTold.{spot_text}
use Rattle.debugger.specs.Replies.{line}
use Rattle.debugger.specs.Whys.{end_from, index_part, kind_part, reads_part, why_text}

-- whether the instruction that is executed has a name
abbrev pub is_named : Fetched → List ℕ → Bool
is_named f name = same_name (row_of (code_of f.extra f.word).instruction).name name

-- whether a step is TS where A overflows, which skips or sets Z
abbrev pub skips : State → NextStep → Bool
skips s (Takes input) = false
skips s (Enters k) = false
skips s (Executes f) = has_overflow (over (accumulator_of s)) && is_named f (codes "TS")

-- whether it is a jump that INDEX moved
abbrev pub is_moved : NextStep → Bool
is_moved (Takes input) = false
is_moved (Enters k) = false
is_moved (Executes f) = is_some f.added && (is_named f (codes "TC") || is_named f (codes "TCF"))

abbrev pub is_entry : NextStep → Bool
is_entry (Takes input) = false
is_entry (Enters k) = true
is_entry (Executes f) = false

-- from what comes Z after a step, beside what its word and its place tell: CCS its operand, BZF and BZMF A; and what goes to Z as data does
abbrev pub way_spots : Link → List Spot
way_spots k = if writes k program_counter then sources k (Cell program_counter) else []

-- what the next step of a state chooses by; TS that skips by A
abbrev pub chosen_by : Scenario → State → List Spot
chosen_by scenario s = if skips s (next_step scenario s) then a ∷ [] else way_spots (link scenario s)

abbrev pub is_any : List Spot → Bool
is_any [] = false
is_any (x ∷ xs) = true

-- whether it chooses the way
abbrev pub chooses : Scenario → State → Bool
chooses scenario s = is_any (chosen_by scenario s) || is_moved (next_step scenario s)

-- whether it decides the way of a step inside an interrupt, or of one outside: it chooses there, or enters that interrupt
abbrev pub decides : Bool → Scenario → State → Bool
decides true scenario s = is_entry (next_step scenario s) || chooses scenario s
decides false scenario s = not s.inside && chooses scenario s

-- the last step that decides the way of the one after p steps
abbrev pub last_choice : Scenario → ℕ → Option ℕ
last_choice scenario p = last_hit (λ t. decides (run scenario p).inside scenario (run scenario t)) p

-- the line of a choice: its step, what it is, where it led, and what it was made by
abbrev pub way_by : ℕ → List ℕ → List ℕ → List ℕ → List ℕ
way_by number kind to read = line (codes "WAY " ++ decimal number ++ codes " " ++ kind ++ codes " TO " ++ to ++ codes " FROM" ++ read)

abbrev pub led_to : SymbolTable → State → List ℕ
led_to symbols s = spot_text symbols (place_in s (next_address s))

abbrev pub way_line : SymbolTable → Scenario → ℕ → List ℕ
way_line symbols scenario t = way_by (t + 1) (kind_part symbols scenario (run scenario t)) (led_to symbols (run scenario (t + 1)))
    (reads_part symbols scenario.rope (run scenario t) (chosen_by scenario (run scenario t)))

-- how many links are told of what it was made by, and what besides
abbrev pub way_links : ℕ
way_links = 16

abbrev pub way_lines : LinkLines
way_lines = record { index = Omitted; places = false }

-- the line of the step that decided, and that of an INDEX which moved it; then how what it was made by came to be what it was
abbrev pub choice_lines : SymbolTable → Scenario → ℕ → List ℕ
choice_lines symbols scenario t = way_line symbols scenario t ++ index_part symbols scenario Told t

abbrev pub choice_text : SymbolTable → Scenario → Option ℕ → List ℕ
choice_text symbols scenario None = line (codes "START")
choice_text symbols scenario (Some t) = choice_lines symbols scenario t
    ++ why_text symbols scenario way_lines way_links t (chosen_by scenario (run scenario t))

-- why the program came to the step after p steps
unfoldable pub way_text : SymbolTable → Scenario → ℕ → List ℕ
way_text symbols scenario p = choice_text symbols scenario (last_choice scenario p)

-- why it came to the step that wrote last at some spots; where none did, how it ends
abbrev pub writer_way : SymbolTable → Scenario → List Spot → Option ℕ → List ℕ
writer_way symbols scenario xs None = end_from symbols false xs
writer_way symbols scenario xs (Some t) = way_text symbols scenario t

unfoldable pub control_text : SymbolTable → Scenario → ℕ → List Spot → List ℕ
control_text symbols scenario p xs = writer_way symbols scenario xs (last_writer scenario xs p)
