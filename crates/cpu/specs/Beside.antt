-- From what comes what a step leaves beside the cells: the sum and the word that wait, what goes out, the flags, and the
-- interrupts asked for.
use Rattle.std.specs.Prelude.{◌≡◌, ℕ, Bool, true, false, Option, Some, None, List, [], ◌∷◌}
use Rattle.std.specs.List.{flat_map}
use Rattle.space.specs.Places.{place}
use Rattle.space.specs.declared.place.Linear.{Linear}
use Rattle.feed.specs.declared.counter.Asks.{Asks}
use Rattle.feed.specs.declared.counter.Asks.TheVariants.{AtZero, OnOneShiftedOut}
use Rattle.feed.specs.declared.input.Counter.{Counter}
use Rattle.feed.specs.declared.input.Input.{Input}
use Rattle.feed.specs.declared.input.Input.TheVariants.{Count}
use Rattle.feed.specs.Counters.{row_of, counter_place}
use Rattle.cpu.specs.State.{State, Scenario, interrupted_word}
use Rattle.cpu.specs.Next.{next, written_channel}
use Rattle.cpu.specs.declared.instruction.Instruction.{Instruction}
use Rattle.cpu.specs.declared.instruction.Instruction.TheVariants.{Resume, Index}
use Rattle.cpu.specs.declared.spot.Spot.{Spot}
use Rattle.cpu.specs.declared.spot.Spot.TheVariants.{Cell}
use Rattle.cpu.specs.Links.{place_spots, spots, channel_spots, Link, link, sources}
use Rattle.cpu.specs.Links.Link.{Takes, Enters, Executes}
use Rattle.cpu.specs.Dependence.{StandAlike, SameControl}

-- whether a step is an instruction, which uses up what waits
abbrev pub is_instruction : Link → Bool
is_instruction (Takes input carries) = false
is_instruction (Enters k z word) = false
is_instruction (Executes z code waited eb fb sup overflow) = true

-- INDEX leaves the sum that it reads, RESUME the word that BRUPT holds, and no other instruction leaves any
abbrev pub index_spots : (ℕ → Linear) → Instruction → ℕ → List Spot
index_spots lead Index k = spots (lead k)
index_spots lead _ k = []

abbrev pub resume_spots : Instruction → List Spot
resume_spots Resume = Cell interrupted_word ∷ []
resume_spots _ = []

-- from what comes the sum, and the word, that waits after an instruction
abbrev pub sum_sources : Link → List Spot
sum_sources (Takes input carries) = []
sum_sources (Enters k z word) = []
sum_sources (Executes z code waited eb fb sup overflow) = index_spots (λ k. place k eb fb sup) code.instruction code.operand

abbrev pub word_sources : Link → List Spot
word_sources (Takes input carries) = []
word_sources (Enters k z word) = []
word_sources (Executes z code waited eb fb sup overflow) = resume_spots code.instruction

-- The sum that waits after an instruction depends on the link and on its sources alone; another step leaves what waits.
abbrev pub SumDependsOnSources : Scenario → State → Scenario → State → Type 0
SumDependsOnSources one s other t =
    link one s ≡ link other t → StandAlike one.rope s other.rope t (sum_sources (link one s))
    → (is_instruction (link one s) ≡ false → s.waiting_sum ≡ t.waiting_sum)
    → (next one s).0.waiting_sum ≡ (next other t).0.waiting_sum

-- The same of the word that waits.
abbrev pub WordDependsOnSources : Scenario → State → Scenario → State → Type 0
WordDependsOnSources one s other t =
    link one s ≡ link other t → StandAlike one.rope s other.rope t (word_sources (link one s))
    → (is_instruction (link one s) ≡ false → s.waiting_word ≡ t.waiting_word)
    → (next one s).0.waiting_word ≡ (next other t).0.waiting_word

-- the channel that a step writes, and what is read there
abbrev pub output_channel : Link → Option ℕ
output_channel (Takes input carries) = None
output_channel (Enters k z word) = None
output_channel (Executes z code waited eb fb sup overflow) = written_channel code

abbrev pub channel_spots_of : Option ℕ → List Spot
channel_spots_of None = []
channel_spots_of (Some n) = channel_spots n

-- from what comes the word that goes out
abbrev pub output_sources : Link → List Spot
output_sources link = flat_map (sources link) (channel_spots_of (output_channel link))

-- What goes out depends on the link, on its sources, and on the cycles before, and on nothing else: its channel, its word and its
-- cycle are the same.
abbrev pub OutputDependsOnSources : Scenario → State → Scenario → State → Type 0
OutputDependsOnSources one s other t =
    link one s ≡ link other t → StandAlike one.rope s other.rope t (output_sources (link one s)) → s.cycles ≡ t.cycles
    → (next one s).1 ≡ (next other t).1

-- the flags are the same: whether extracode is in force, whether interrupts are inhibited, and whether one is served
pub record SameFlags (s t : State) : Type 0 where
  pub extra : s.extra ≡ t.extra
  pub inhibit : s.inhibit ≡ t.inhibit
  pub inside : s.inside ≡ t.inside

-- The flags after a step depend on the link and on the flags before, and on nothing else.
abbrev pub FlagsDependOnLink : Scenario → State → Scenario → State → Type 0
FlagsDependOnLink one s other t = link one s ≡ link other t → SameFlags s t → SameFlags (next one s).0 (next other t).0

-- So what controls fixes them.
abbrev pub ControlFixesFlags : Scenario → State → Scenario → State → Type 0
ControlFixesFlags one s other t = SameControl one s other t → SameFlags (next one s).0 (next other t).0

-- a counter that asks at zero, or on a one shifted out, asks by the word that it held; one that asks on overflow by the link
abbrev pub asking_spots : Asks → Counter → List Spot
asking_spots (AtZero k) counter = place_spots (counter_place counter)
asking_spots (OnOneShiftedOut k) counter = place_spots (counter_place counter)
asking_spots _ counter = []

abbrev pub input_request_sources : Input → List Spot
input_request_sources (Count counter sequence) = asking_spots (row_of counter).asks counter
input_request_sources _ = []

-- from what comes which interrupts are asked for
abbrev pub request_sources : Link → List Spot
request_sources (Takes input carries) = input_request_sources input
request_sources (Enters k z word) = []
request_sources (Executes z code waited eb fb sup overflow) = []

-- The interrupts asked for after a step depend on the link, on its sources, and on those asked for before, and on nothing else.
abbrev pub RequestsDependOnSources : Scenario → State → Scenario → State → Type 0
RequestsDependOnSources one s other t =
    link one s ≡ link other t → StandAlike one.rope s other.rope t (request_sources (link one s)) → s.requests ≡ t.requests
    → (next one s).0.requests ≡ (next other t).0.requests

-- So what controls fixes them, with those sources, which only an input that a counter takes has.
abbrev pub ControlFixesRequests : Scenario → State → Scenario → State → Type 0
ControlFixesRequests one s other t =
    SameControl one s other t → StandAlike one.rope s other.rope t (request_sources (link one s))
    → (next one s).0.requests ≡ (next other t).0.requests
