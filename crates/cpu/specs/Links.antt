-- What a step is, which cells it writes, and from what comes what it writes there.
use Rattle.std.specs.Prelude.{ℕ, Bool, true, false, Option, Some, None, List, [], ◌∷◌, ◌++◌, map, if◌then◌else◌, ◌==◌, nat_le, ◌&&◌, ◌||◌}
use Rattle.std.specs.Prelude.{not, is_some}
use Rattle.std.specs.List.{flat_map}
use Rattle.words.specs.declared.wide.Overflow.{Overflow}
use Rattle.words.specs.declared.wide.Overflow.TheVariants.{No}
use Rattle.words.specs.Signs.{over}
use Rattle.space.specs.Cells.{at, superbank, channel_cell, accumulator, lower_accumulator, return_address, erasable_bank, fixed_bank}
use Rattle.space.specs.Cells.{program_counter, both_banks, always_zero, cycle_right, edit_opcode, lower_accumulator_channel}
use Rattle.space.specs.Cells.{return_address_channel}
use Rattle.space.specs.Places.{place}
use Rattle.space.specs.declared.place.Linear.{Linear}
use Rattle.space.specs.declared.place.Linear.TheVariants.{Erasable, Fixed}
use Rattle.rope.specs.Places.{Words, word_at}
use Rattle.feed.specs.declared.input.Counter.{Counter}
use Rattle.feed.specs.declared.input.Input.{Input}
use Rattle.feed.specs.declared.input.Input.TheVariants.{Count, Word, Interrupt}
use Rattle.feed.specs.Merged.{due}
use Rattle.feed.specs.Counters.{counter_place}
use Rattle.cpu.specs.State.{State, Scenario, interrupted_address, interrupted_word}
use Rattle.cpu.specs.Codes.{Code, code_of}
use Rattle.cpu.specs.Effects.{place_in, erasable_number, next_address, accumulator_of, has_overflow, first_of, greatest_short}
use Rattle.cpu.specs.Effects.{greatest_address}
use Rattle.cpu.specs.Next.{instruction_word, entry}
use Rattle.cpu.specs.Inputs.{carries_into, is_overflow, step_of, count_of}
use Rattle.cpu.specs.declared.spot.Spot.{Spot}
use Rattle.cpu.specs.declared.spot.Spot.TheVariants.{Cell, InRope}
use Rattle.cpu.specs.declared.instruction.Instruction.{Instruction}
use Rattle.cpu.specs.declared.instruction.Instruction.TheVariants.{Relint, Inhint, Extend, Resume, Tc, Ccs, Tcf, Das, Lxch, Incr, Ads, Ca}
use Rattle.cpu.specs.declared.instruction.Instruction.TheVariants.{Cs, Index, Dxch, Ts, Xch, Ad, Mask, Read, Write, Rand, Wand, Ror, Wor}
use Rattle.cpu.specs.declared.instruction.Instruction.TheVariants.{Rxor, Edrupt, Dv, Bzf, Msu, Qxch, Aug, Dim, Dca, Dcs, Su, Bzmf, Mp}

-- the number that stands at a spot
abbrev pub spot_word : Words → State → Spot → ℕ
spot_word rope s (Cell c) = at s.cells c
spot_word rope s (InRope bank offset) = word_at rope bank offset

-- the cells of an erasable place: BB is FB and EB, and the place that reads as 0 has none
abbrev pub place_cells : ℕ → List ℕ
place_cells p =
    if p == both_banks then fixed_bank ∷ erasable_bank ∷ []
    else (if p == always_zero then []
    else p ∷ [])

-- the cell of a channel: two are L and Q
abbrev pub cell_of_channel : ℕ → ℕ
cell_of_channel n =
    if n == lower_accumulator_channel then lower_accumulator
    else (if n == return_address_channel then return_address
    else channel_cell n)

-- what is read at an erasable place
abbrev pub place_spots : ℕ → List Spot
place_spots p = map (λ c. Cell c) (place_cells p)

-- what is read at a place
abbrev pub spots : Linear → List Spot
spots (Erasable p) = place_spots p
spots (Fixed bank offset) = InRope bank offset ∷ []

-- what is read on a channel
abbrev pub channel_spots : ℕ → List Spot
channel_spots n = Cell (cell_of_channel n) ∷ []

-- what cells then hold comes from what stood at these spots
pub record Flow : Type 0 where
  pub into : List ℕ
  pub from : List Spot

abbrev pub to_place : ℕ → List Spot → Flow
to_place p from = record { into = place_cells p; from = from }

abbrev pub to_channel : ℕ → List Spot → Flow
to_channel n from = record { into = cell_of_channel n ∷ []; from = from }

-- whether a cell is among some
abbrev pub is_in : ℕ → List ℕ → Bool
is_in c [] = false
is_in c (d ∷ ds) = c == d || is_in c ds

-- from what comes what a cell holds after flows, of which the last into it counts
abbrev pub sources_by : List Flow → ℕ → List Spot → List Spot
sources_by [] c from = from
sources_by (f ∷ fs) c from = sources_by fs c (if is_in c f.into then f.from else from)

-- the cells into which flows are, in their order
abbrev pub targets_by : List Flow → List ℕ
targets_by fs = flat_map (λ f. f.into) fs

-- the same of a spot: what no flow is into stays, and fixed memory does
abbrev pub sources_of : List Flow → Spot → List Spot
sources_of fs (Cell c) = sources_by fs c (Cell c ∷ [])
sources_of fs (InRope bank offset) = InRope bank offset ∷ []

-- flows after flows: from what comes what stood at these spots after those
abbrev pub through : List Flow → List Spot → List Spot
through fs xs = flat_map (sources_of fs) xs

-- A, L
abbrev pub a : Spot
a = Cell accumulator

abbrev pub l : Spot
l = Cell lower_accumulator

-- a word that was read at an editing place goes there again
abbrev pub edit_flows : Linear → List Flow
edit_flows (Erasable p) = if nat_le cycle_right p && nat_le p edit_opcode then to_place p (place_spots p) ∷ [] else []
edit_flows (Fixed bank offset) = []

abbrev pub exchange_flows : ℕ → ℕ → List Flow
exchange_flows register p = to_place register (place_spots p) ∷ to_place p (place_spots register) ∷ []

-- DXCH
abbrev pub dxch_flows : ℕ → ℕ → List Flow
dxch_flows high low =
    let first = exchange_flows lower_accumulator low in
    first ++ (to_place accumulator (through first (place_spots high)) ∷ to_place high (through first (a ∷ [])) ∷ [])

-- DAS
abbrev pub das_flows : ℕ → ℕ → List Flow
das_flows high low =
    let lows = l ∷ place_spots low in
    let all = a ∷ place_spots high ++ lows in
    if high == accumulator then to_place lower_accumulator lows ∷ to_place accumulator all ∷ []
    else to_place low lows ∷ to_place high all ∷ to_place lower_accumulator [] ∷ to_place accumulator all ∷ []

-- TC
abbrev pub tc_flows : ℕ → List Flow
tc_flows k =
    if k == return_address then to_place program_counter [] ∷ []
    else to_place return_address [] ∷ to_place program_counter [] ∷ []

-- TS, by how A overflows
abbrev pub ts_flows : Overflow → ℕ → List Flow
ts_flows overflow p =
    if not (has_overflow overflow) then to_place p (a ∷ []) ∷ []
    else (if p == accumulator then to_place program_counter [] ∷ []
    else (if p == program_counter then to_place p (a ∷ []) ∷ to_place accumulator [] ∷ []
    else to_place p (a ∷ []) ∷ to_place accumulator [] ∷ to_place program_counter [] ∷ []))

-- the flows of each instruction, in the order of its effect's changes, where addresses lead to these places and A overflows so;
-- what comes of Z alone comes from no spot, since the link tells Z
abbrev pub flows_of : (ℕ → Linear) → Overflow → Instruction → ℕ → List Flow
flows_of lead overflow Relint k = []
flows_of lead overflow Inhint k = []
flows_of lead overflow Extend k = []
flows_of lead overflow Resume k = to_place program_counter (Cell interrupted_address ∷ []) ∷ []
flows_of lead overflow Tc k = tc_flows k
flows_of lead overflow Ccs k = to_place accumulator (spots (lead k)) ∷ to_place program_counter (spots (lead k)) ∷ edit_flows (lead k)
flows_of lead overflow Tcf k = to_place program_counter [] ∷ []
flows_of lead overflow Das k = das_flows (erasable_number (lead (first_of greatest_short k))) (erasable_number (lead k))
flows_of lead overflow Lxch k = exchange_flows lower_accumulator (erasable_number (lead k))
flows_of lead overflow Incr k = let p = erasable_number (lead k) in to_place p (place_spots p) ∷ []
flows_of lead overflow Ads k = let p = erasable_number (lead k) in to_place p (a ∷ place_spots p) ∷ to_place accumulator (a ∷ place_spots p)
    ∷ []
flows_of lead overflow Ca k = to_place accumulator (spots (lead k)) ∷ edit_flows (lead k)
flows_of lead overflow Cs k = to_place accumulator (spots (lead k)) ∷ edit_flows (lead k)
flows_of lead overflow Index k = edit_flows (lead k)
flows_of lead overflow Dxch k = dxch_flows (erasable_number (lead (first_of greatest_short k))) (erasable_number (lead k))
flows_of lead overflow Ts k = ts_flows overflow (erasable_number (lead k))
flows_of lead overflow Xch k = exchange_flows accumulator (erasable_number (lead k))
flows_of lead overflow Ad k = to_place accumulator (a ∷ spots (lead k)) ∷ edit_flows (lead k)
flows_of lead overflow Mask k = to_place accumulator (a ∷ spots (lead k)) ∷ edit_flows (lead k)
flows_of lead overflow Read n = to_place accumulator (channel_spots n) ∷ []
flows_of lead overflow Write n = to_channel n (a ∷ []) ∷ []
flows_of lead overflow Rand n = to_place accumulator (a ∷ channel_spots n) ∷ []
flows_of lead overflow Wand n = to_place accumulator (a ∷ channel_spots n) ∷ to_channel n (a ∷ channel_spots n) ∷ []
flows_of lead overflow Ror n = to_place accumulator (a ∷ channel_spots n) ∷ []
flows_of lead overflow Wor n = to_place accumulator (a ∷ channel_spots n) ∷ to_channel n (a ∷ channel_spots n) ∷ []
flows_of lead overflow Rxor n = to_place accumulator (a ∷ channel_spots n) ∷ []
flows_of lead overflow Edrupt k = []
flows_of lead overflow Dv k = to_place accumulator (a ∷ l ∷ spots (lead k)) ∷ to_place lower_accumulator (a ∷ l ∷ spots (lead k))
    ∷ edit_flows (lead k)
flows_of lead overflow Bzf k = to_place program_counter (a ∷ []) ∷ []
flows_of lead overflow Msu k = to_place accumulator (a ∷ spots (lead k)) ∷ edit_flows (lead k)
flows_of lead overflow Qxch k = exchange_flows return_address (erasable_number (lead k))
flows_of lead overflow Aug k = let p = erasable_number (lead k) in to_place p (place_spots p) ∷ []
flows_of lead overflow Dim k = let p = erasable_number (lead k) in to_place p (place_spots p) ∷ []
flows_of lead overflow Dca k =
    let first = lead (first_of greatest_address k) in
    to_place accumulator (spots first) ∷ to_place lower_accumulator (spots (lead k)) ∷ edit_flows first ++ edit_flows (lead k)
flows_of lead overflow Dcs k =
    let first = lead (first_of greatest_address k) in
    to_place accumulator (spots first) ∷ to_place lower_accumulator (spots (lead k)) ∷ edit_flows first ++ edit_flows (lead k)
flows_of lead overflow Su k = to_place accumulator (a ∷ spots (lead k)) ∷ edit_flows (lead k)
flows_of lead overflow Bzmf k = to_place program_counter (a ∷ []) ∷ []
flows_of lead overflow Mp k = to_place accumulator (a ∷ spots (lead k)) ∷ to_place lower_accumulator (a ∷ spots (lead k))
    ∷ edit_flows (lead k)

-- how A overflows, where TS is executed
abbrev pub overflow_of : Instruction → ℕ → Overflow
overflow_of Ts x = over x
overflow_of instruction x = No

abbrev pub overflow_in : Instruction → State → Overflow
overflow_in instruction s = overflow_of instruction (accumulator_of s)

-- whether an input's counter overflows
abbrev pub carries_in : State → Input → Bool
carries_in s (Count counter sequence) = is_overflow (step_of sequence (count_of s counter)).carry
carries_in s (Word n w) = false
carries_in s (Interrupt k) = false

-- what a step is, all that controls it and no data: an input that is taken, with whether its counter overflows; an interrupt
-- that is entered, with Z and the place of the word that it puts off; an instruction that is executed, with Z, whether its word
-- waited, the banks by which its addresses lead to places, and, of TS, how A overflows
pub data Link : Type 0 where
  Takes : (input : Input) (carries : Bool) → Link
  Enters : (interrupt z : ℕ) (word : Linear) → Link
  Executes : (z : ℕ) (code : Code) (waited : Bool) (eb fb : ℕ) (sup : Bool) (overflow : Overflow) → Link

abbrev pub link_by : Words → State → Option (Input × Option ℕ) → Option ℕ → Link
link_by rope s (Some given) k = Takes given.0 (carries_in s given.0)
link_by rope s None (Some k) = Enters k (at s.cells program_counter) (place_in s (next_address s))
link_by rope s None None =
    let code = code_of s.extra (instruction_word rope s) in
    Executes (at s.cells program_counter) code (is_some s.waiting_word)
    (at s.cells erasable_bank) (at s.cells fixed_bank) (superbank s.cells) (overflow_in code.instruction s)

-- what the next step is
unfoldable pub link : Scenario → State → Link
link scenario s = link_by scenario.rope s (due scenario.inputs s.taken s.cycles) (entry s)

-- a counter into which another's overflow is carried
abbrev pub carry_flows : Option Counter → List Flow
carry_flows None = []
carry_flows (Some other) = to_place (counter_place other) (place_spots (counter_place other)) ∷ []

abbrev pub input_flows : Input → Bool → List Flow
input_flows (Count counter sequence) carries =
    to_place (counter_place counter) (place_spots (counter_place counter)) ∷ (if carries then carry_flows (carries_into counter) else [])
input_flows (Word n w) carries = to_channel n [] ∷ []
input_flows (Interrupt k) carries = []

-- Z moves on, unless the word waited
abbrev pub fetch_flows : Bool → List Flow
fetch_flows true = []
fetch_flows false = to_place program_counter [] ∷ []

-- what a step's writings come from
abbrev pub flows : Link → List Flow
flows (Takes input carries) = input_flows input carries
flows (Enters k z word) =
    to_place interrupted_word (spots word) ∷ to_place interrupted_address [] ∷ to_place program_counter [] ∷ []
flows (Executes z code waited eb fb sup overflow) =
    fetch_flows waited ++ flows_of (λ k. place k eb fb sup) overflow code.instruction code.operand

-- from what comes what stands at a spot after a step
unfoldable pub sources : Link → Spot → List Spot
sources link x = sources_of (flows link) x

-- the cells that a step writes, in the order of its writings; one that is written twice stands twice
unfoldable pub targets : Link → List ℕ
targets link = targets_by (flows link)

-- whether a step writes a cell
abbrev pub writes : Link → ℕ → Bool
writes link c = is_in c (targets link)
