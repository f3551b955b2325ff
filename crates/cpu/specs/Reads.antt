-- What a step reads: the spots whose numbers decide what it does, each as often as it is read.
use Rattle.std.specs.Prelude.{ℕ, Bool, true, false, Option, Some, None, List, [], ◌∷◌, ◌++◌, if◌then◌else◌}
use Rattle.words.specs.Numbers.{extend}
use Rattle.space.specs.Cells.{return_address}
use Rattle.space.specs.Places.{place}
use Rattle.space.specs.declared.place.Linear.{Linear}
use Rattle.space.specs.declared.place.Linear.TheVariants.{Erasable, Fixed}
use Rattle.feed.specs.declared.input.Counter.{Counter}
use Rattle.feed.specs.declared.input.Input.{Input}
use Rattle.feed.specs.declared.input.Input.TheVariants.{Count, Word, Interrupt}
use Rattle.feed.specs.Counters.{counter_place}
use Rattle.cpu.specs.State.{interrupted_address, interrupted_word}
use Rattle.cpu.specs.Effects.{erasable_number, first_of, greatest_short, greatest_address}
use Rattle.cpu.specs.Inputs.{carries_into}
use Rattle.cpu.specs.Links.{a, l, channel_spots, place_spots, spots, Link}
use Rattle.cpu.specs.Links.Link.{Takes, Enters, Executes}
use Rattle.cpu.specs.declared.spot.Spot.{Spot}
use Rattle.cpu.specs.declared.spot.Spot.TheVariants.{Cell}
use Rattle.cpu.specs.declared.instruction.Instruction.{Instruction}
use Rattle.cpu.specs.declared.instruction.Instruction.TheVariants.{Relint, Inhint, Extend, Resume, Tc, Ccs, Tcf, Das, Lxch, Incr, Ads, Ca}
use Rattle.cpu.specs.declared.instruction.Instruction.TheVariants.{Cs, Index, Dxch, Ts, Xch, Ad, Mask, Read, Write, Rand, Wand, Ror, Wor}
use Rattle.cpu.specs.declared.instruction.Instruction.TheVariants.{Rxor, Edrupt, Dv, Bzf, Msu, Qxch, Aug, Dim, Dca, Dcs, Su, Bzmf, Mp}

-- A and L, and a pair of erasable places: the first, and the second
abbrev pub pair_reads : Linear → Linear → List Spot
pair_reads first second = a ∷ l ∷ place_spots (erasable_number first) ++ place_spots (erasable_number second)

-- a register and an erasable place
abbrev pub exchange_reads : ℕ → Linear → List Spot
exchange_reads register there = Cell register ∷ place_spots (erasable_number there)

-- what each instruction reads, where addresses lead to these places; Z, by which each goes on, is left out
abbrev pub reads_of : (ℕ → Linear) → Instruction → ℕ → List Spot
reads_of lead Relint k = []
reads_of lead Inhint k = []
reads_of lead Extend k = []
reads_of lead Resume k = Cell interrupted_address ∷ Cell interrupted_word ∷ []
reads_of lead Tc k = []
reads_of lead Ccs k = spots (lead k)
reads_of lead Tcf k = []
reads_of lead Das k = pair_reads (lead (first_of greatest_short k)) (lead k)
reads_of lead Lxch k = l ∷ place_spots (erasable_number (lead k))
reads_of lead Incr k = place_spots (erasable_number (lead k))
reads_of lead Ads k = a ∷ place_spots (erasable_number (lead k))
reads_of lead Ca k = spots (lead k)
reads_of lead Cs k = spots (lead k)
reads_of lead Index k = spots (lead k)
reads_of lead Dxch k = pair_reads (lead (first_of greatest_short k)) (lead k)
reads_of lead Ts k = a ∷ []
reads_of lead Xch k = a ∷ place_spots (erasable_number (lead k))
reads_of lead Ad k = a ∷ spots (lead k)
reads_of lead Mask k = a ∷ spots (lead k)
reads_of lead Read n = channel_spots n
reads_of lead Write n = a ∷ []
reads_of lead Rand n = a ∷ channel_spots n
reads_of lead Wand n = a ∷ channel_spots n
reads_of lead Ror n = a ∷ channel_spots n
reads_of lead Wor n = a ∷ channel_spots n
reads_of lead Rxor n = a ∷ channel_spots n
reads_of lead Edrupt k = []
reads_of lead Dv k = a ∷ l ∷ spots (lead k)
reads_of lead Bzf k = a ∷ []
reads_of lead Msu k = a ∷ spots (lead k)
reads_of lead Qxch k = exchange_reads return_address (lead k)
reads_of lead Aug k = place_spots (erasable_number (lead k))
reads_of lead Dim k = place_spots (erasable_number (lead k))
reads_of lead Dca k = spots (lead (first_of greatest_address k)) ++ spots (lead k)
reads_of lead Dcs k = spots (lead (first_of greatest_address k)) ++ spots (lead k)
reads_of lead Su k = a ∷ spots (lead k)
reads_of lead Bzmf k = a ∷ []
reads_of lead Mp k = a ∷ spots (lead k)

-- the fetch reads an erasable place, where the word that is executed stands in one; a word that waited is not fetched
abbrev pub fetch_reads : Bool → Linear → List Spot
fetch_reads true there = []
fetch_reads false (Erasable p) = place_spots p
fetch_reads false (Fixed bank offset) = []

-- a pulse reads its counter, and where that overflows into another, this one too
abbrev pub carry_reads : Option Counter → List Spot
carry_reads None = []
carry_reads (Some other) = place_spots (counter_place other)

abbrev pub input_reads : Input → Bool → List Spot
input_reads (Count counter sequence) carries = place_spots (counter_place counter)
    ++ (if carries then carry_reads (carries_into counter) else [])
input_reads (Word n w) carries = []
input_reads (Interrupt k) carries = []

-- what a step reads, in order; an entry reads the word that it puts off. Z is as the machine holds it, in 15 bits, and leads as 16 bits do
unfoldable pub reads : Link → List Spot
reads (Takes input carries) = input_reads input carries
reads (Enters k z word) = spots word
reads (Executes z code waited eb fb sup overflow) =
    fetch_reads waited (place (extend z) eb fb sup) ++ reads_of (λ k. place k eb fb sup) code.instruction code.operand
