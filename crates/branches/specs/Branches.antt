-- The branches of a run that led away from a place.
use Rattle.std.specs.Prelude.{ℕ, Bool, false, not, ◌&&◌, ◌||◌, List, [], ◌∷◌, Option, None, Some, codes, if◌then◌else◌}
use Rattle.std.specs.List.{list_any}
use Rattle.words.specs.Signs.{over}
use Rattle.agc_text.specs.Tables.{same_name}
use Rattle.space.specs.Cells.{program_counter}
use Rattle.space.specs.declared.place.Linear.{Linear}
use Rattle.rope.specs.Places.{Words}
use Rattle.cpu.specs.State.{State, Scenario}
use Rattle.cpu.specs.Effects.{accumulator_of, has_overflow, next_address}
use Rattle.cpu.specs.Next.{following_address, next}
use Rattle.cpu.specs.NextStep.{next_step}
use Rattle.cpu.specs.declared.next_step.Fetched.{Fetched}
use Rattle.cpu.specs.declared.next_step.NextStep.{NextStep}
use Rattle.cpu.specs.declared.next_step.NextStep.TheVariants.{Takes, Enters, Executes}
use Rattle.branches.specs.Leading.{is_called, is_on_the_way, is_register, leads_on, moved, name_of, named_by, plain}
use Rattle.branches.specs.declared.stand.Stand.{Stand}

-- the address after an instruction: Z has it already where the word waited
abbrev pub address_behind : State → Fetched → ℕ
address_behind s f = if f.waited then next_address s else following_address s

-- four addresses from one on; and one with another, where this is named
abbrev pub four_from : ℕ → List Stand
four_from behind = plain behind ∷ plain (moved behind 1) ∷ plain (moved behind 2) ∷ plain (moved behind 3) ∷ []

abbrev pub both : ℕ → Option ℕ → List Stand
both behind None = plain behind ∷ []
both behind (Some address) = plain behind ∷ plain address ∷ []

-- TC that calls a routine, which may not return; and TS that skips, where A overflows
abbrev pub is_call : List ℕ → ℕ → Option ℕ → Bool
is_call name behind address = same_name name (codes "TC") && is_called behind address

abbrev pub is_skip : Bool → List ℕ → Option ℕ → Bool
is_skip overflows name address = overflows && same_name name (codes "TS") && not (is_register program_counter address)

-- The words to which an instruction may lead that branches, by its name, the address behind it and the one that it names: four behind
-- CCS, two of BZF and BZMF; of a call and of TS that skips the one behind it, to which it does not lead at once.
abbrev pub ways_by : Bool → List ℕ → ℕ → Option ℕ → List Stand
ways_by overflows name behind address =
    if same_name name (codes "CCS") then four_from behind
    else (if same_name name (codes "BZF") || same_name name (codes "BZMF") then both behind address
    else (if is_call name behind address || is_skip overflows name address then plain behind ∷ []
    else []))

abbrev pub overflows : State → Bool
overflows s = has_overflow (over (accumulator_of s))

abbrev pub ways : State → Fetched → List Stand
ways s f = ways_by (overflows s) (name_of f.extra f.word) (address_behind s f) (named_by f.extra f.word)

-- whether one of the ways of a step leads to a place without a further branch, where the bank registers are as before it
abbrev pub has_way_by : Words → Linear → State → NextStep → Bool
has_way_by words place s (Takes input) = false
has_way_by words place s (Enters k) = false
has_way_by words place s (Executes f) = list_any (leads_on words s place) (ways s f)

unfoldable pub has_way : Scenario → Linear → State → Bool
has_way scenario place s = has_way_by scenario.rope place s (next_step scenario s)

-- whether a step led away from a place: one of its ways leads there, and the one that it went does not
abbrev pub leads_away : Scenario → Linear → State → Bool
leads_away scenario place s = has_way scenario place s && not (is_on_the_way scenario.rope place (next scenario s).0)
