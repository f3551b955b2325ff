-- What an interrupt leaves whose routine is RESUME alone.
use Rattle.std.specs.Prelude.{◌≡◌, ◌≢◌, ℕ, zero, suc, ◌+◌, ◌*◌, Option, None, Some}
use Rattle.std.specs.FinSet as set
use Rattle.space.specs.Cells.{at}
use Rattle.space.specs.declared.place.Linear.{Linear}
use Rattle.space.specs.declared.place.Linear.TheVariants.{Erasable, Fixed}
use Rattle.rope.specs.Places.{word_at}
use Rattle.feed.specs.Merged.{due}
use Rattle.cpu.specs.declared.instruction.Instruction.TheVariants.{Resume}
use Rattle.cpu.specs.declared.instruction.Operand.{Operand}
use Rattle.cpu.specs.declared.instruction.Operand.TheVariants.{Nothing, Short, Long, ShortPair, LongPair, Channel}
use Rattle.cpu.specs.declared.output.Output.{Output}
use Rattle.cpu.specs.State.{State, Scenario, interrupted_address, interrupted_word}
use Rattle.cpu.specs.Codes.{row_of, code_of}
use Rattle.cpu.specs.Effects.{place_in, next_address, first_of, greatest_short, greatest_address}
use Rattle.cpu.specs.Next.{instruction_word, fetched, entry, next}
use Rattle.cpu.specs.Laws.{EntersInterrupt}

-- the state n steps after another
unfoldable pub after_steps : Scenario → ℕ → State → State
after_steps scenario zero s = s
after_steps scenario (suc n) s = (next scenario (after_steps scenario n s)).0

-- Interrupt k is entered, its routine is the word of RESUME in its place of bank 2, and no input is due before the program goes on.
pub record ResumesAtOnce (scenario : Scenario) (s : State) (k : ℕ) : Type 0 where
  pub enters : EntersInterrupt scenario s k
  pub routine : word_at scenario.rope 2 (4 * k) ≡ 0o50017
  pub quiet : due scenario.inputs s.taken (s.cycles + 5) ≡ None

-- Two states are the same but for ZRUPT, BRUPT, the interrupts asked for and the cycles.
pub record IsSameBut (s t : State) : Type 0 where
  pub cells : (c : ℕ) → c ≢ interrupted_address → c ≢ interrupted_word → at t.cells c ≡ at s.cells c
  pub extra : t.extra ≡ s.extra
  pub inhibit : t.inhibit ≡ s.inhibit
  pub inside : t.inside ≡ s.inside
  pub waiting_sum : t.waiting_sum ≡ s.waiting_sum
  pub waiting_word : t.waiting_word ≡ s.waiting_word
  pub taken : t.taken ≡ s.taken
  pub counts : t.counts ≡ s.counts

-- a state whose instruction is fetched and waits
abbrev pub with_word_waiting : State → ℕ → State
with_word_waiting s word = record (fetched s) { waiting_word = Some word }

-- Two steps and five cycles later, whatever the instruction that was put off, all is as it was but that this instruction is fetched: its
-- word waits, ZRUPT and BRUPT hold the address after it and the word, and the interrupt is asked for no more. None is entered before it.
pub record LeadsBack (scenario : Scenario) (s : State) (k : ℕ) (t : State) : Type 0 where
  pub same : IsSameBut (with_word_waiting s (instruction_word scenario.rope s)) t
  pub word : instruction_word scenario.rope t ≡ instruction_word scenario.rope s
  pub zrupt : at t.cells interrupted_address ≡ next_address (fetched s)
  pub brupt : at t.cells interrupted_word ≡ instruction_word scenario.rope s
  pub requests : t.requests ≡ set.remove s.requests k
  pub cycles : t.cycles ≡ s.cycles + 5
  pub none_entered : entry t ≡ None

abbrev pub InterruptLeadsBack : Scenario → State → ℕ → Type 0
InterruptLeadsBack scenario s k = ResumesAtOnce scenario s k → LeadsBack scenario s k (after_steps scenario 2 s)

-- a place other than ZRUPT and BRUPT
abbrev pub IsApart : Linear → Type 0
IsApart (Erasable p) = (p ≢ interrupted_address) × (p ≢ interrupted_word)
IsApart (Fixed bank offset) = Unit {0}

-- an operand of this kind names neither ZRUPT nor BRUPT
abbrev pub NamesNeither : State → Operand → ℕ → Type 0
NamesNeither s Nothing k = Unit {0}
NamesNeither s Short k = IsApart (place_in s k)
NamesNeither s Long k = IsApart (place_in s k)
NamesNeither s ShortPair k = IsApart (place_in s (first_of greatest_short k)) × IsApart (place_in s k)
NamesNeither s LongPair k = IsApart (place_in s (first_of greatest_address k)) × IsApart (place_in s k)
NamesNeither s Channel n = Unit {0}

-- the same state, but that no interrupt is asked for
abbrev pub unasked : State → State
unasked s = record s { requests = set.empty }

-- so many cycles later
abbrev pub later : ℕ → Option Output → Option Output
later n None = None
later n (Some o) = Some (record o { cycles = o.cycles + n })

-- Three steps with the interrupt lead where one without it does, five cycles later.
pub record IsNotFelt (scenario : Scenario) (s : State) (k : ℕ) : Type 0 where
  pub same : IsSameBut (next scenario (unasked s)).0 (after_steps scenario 3 s)
  pub output : (next scenario (after_steps scenario 2 s)).1 ≡ later 5 (next scenario (unasked s)).1
  pub requests : (after_steps scenario 3 s).requests ≡ set.remove s.requests k
  pub cycles : (after_steps scenario 3 s).cycles ≡ (next scenario (unasked s)).0.cycles + 5

-- The instruction that is put off is not RESUME and names neither ZRUPT nor BRUPT. (One that stores there without reading is left out too.)
abbrev pub InterruptIsNotFelt : Scenario → State → ℕ → Type 0
InterruptIsNotFelt scenario s k =
    let code = code_of s.extra (instruction_word scenario.rope s) in
    ResumesAtOnce scenario s k → code.instruction ≢ Resume → NamesNeither s (row_of code.instruction).operand code.operand
    → IsNotFelt scenario s k
