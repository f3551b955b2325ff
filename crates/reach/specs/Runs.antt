-- What a run executes is reached, as long as it goes on where words tell.
use Rattle.std.specs.Prelude.{◌≡◌, ℕ, ◌+◌, ◌<◌, ◌≤◌, ◌⊎◌, Bool, true, false, not, ◌==◌, ◌&&◌, ◌||◌, nat_lt, nat_le, if◌then◌else◌}
use Rattle.std.specs.Prelude.{List, Option, Some, None, is_some}
use Rattle.std.specs.List.{list_any}
use Rattle.words.specs.declared.wide.Overflow.TheVariants.{No}
use Rattle.space.specs.Cells.{channel_cell, fixed_bank, program_counter, superbank_channel}
use Rattle.space.specs.declared.place.Linear.{Linear}
use Rattle.space.specs.declared.place.Linear.TheVariants.{Erasable, Fixed}
use Rattle.rope.specs.Places.{Words}
use Rattle.feed.specs.declared.input.Input.{Input}
use Rattle.cpu.specs.declared.instruction.Instruction.{Instruction}
use Rattle.cpu.specs.declared.instruction.Instruction.TheVariants.{Resume, Tc, Ccs, Tcf, Bzf, Bzmf}
use Rattle.cpu.specs.Codes.{Code, code_of}
use Rattle.cpu.specs.Effects.{next_address, place_in}
use Rattle.cpu.specs.Laws.{EntersInterrupt, ExecutesCode, TakesInput}
use Rattle.cpu.specs.Links.{flows_of, link, targets_by, writes}
use Rattle.cpu.specs.Next.{next}
use Rattle.cpu.specs.Run.{run}
use Rattle.cpu.specs.State.{Scenario, State}
use Rattle.reach.specs.declared.spot.How.{How}
use Rattle.reach.specs.declared.spot.How.TheVariants.{Executes}
use Rattle.reach.specs.declared.spot.Spot.{Spot}
use Rattle.reach.specs.Ways.{Among, Reached, first_fixed, first_unbanked, spot, vectors, word_of}

-- the spot of a place of fixed memory that is executed at an address
abbrev pub spot_at : Linear → ℕ → How → Option Spot
spot_at (Erasable p) address how = None
spot_at (Fixed bank offset) address how = Some (spot bank address how)

-- the spot of the word that is executed next: none in erasable memory, and none while a word waits that RESUME brought
unfoldable pub spot_of : State → Option Spot
spot_of s =
    if is_some s.waiting_word then None
    else spot_at (place_in s (next_address s)) (next_address s) (Executes s.extra (is_some s.waiting_sum))

-- whether a cell decides which word an address after that of p leads to: Z does, and below 4000 FB and the superbank's channel
abbrev pub steers : Spot → ℕ → Bool
steers p c = c == program_counter || (nat_lt p.address first_unbanked && (c == fixed_bank || c == channel_cell superbank_channel))

-- whether a word tells where a jump leads: INDEX left no sum, and the address is of memory that no bank register selects, or of the bank of
-- p itself
abbrev pub is_told : Spot → Bool → ℕ → Bool
is_told p indexed k = not indexed && (nat_le first_unbanked k || (nat_le first_fixed k && nat_lt p.address first_unbanked))

-- Whether an instruction at p may lead where its word does not tell: a jump whose target is not told, RESUME, and whatever else writes what
-- steers.
abbrev pub opens : (ℕ → Linear) → Spot → Bool → Instruction → ℕ → Bool
opens lead p indexed Tc k = not (is_told p indexed k)
opens lead p indexed Tcf k = not (is_told p indexed k)
opens lead p indexed Bzf k = not (is_told p indexed k)
opens lead p indexed Bzmf k = not (is_told p indexed k)
opens lead p indexed Ccs k = false
opens lead p indexed Resume k = true
opens lead p indexed i k = list_any (steers p) (targets_by (flows_of lead No i k))

-- A step executes the instruction of the word at a spot, whose operand a sum of INDEX may have changed, and that does not lead where the
-- word does not tell.
pub record GoesAsTold (scenario : Scenario) (s : State) (p : Spot) (code : Code) : Type 0 where
  pub executes : ExecutesCode scenario s code
  pub here : spot_of s ≡ Some p
  pub own : code.instruction ≡ (code_of s.extra (word_of scenario.rope p)).instruction
  pub operand : s.waiting_sum ≡ None → code ≡ code_of s.extra (word_of scenario.rope p)
  pub told : opens (place_in s) p (is_some s.waiting_sum) code.instruction code.operand ≡ false

-- An input writes nothing that steers: that is any but a word on the superbank's channel.
pub record SparesWay (scenario : Scenario) (s : State) (given : Input × Option ℕ) : Type 0 where
  pub takes : TakesInput scenario s given
  pub z : writes (link scenario s) program_counter ≡ false
  pub fb : writes (link scenario s) fixed_bank ≡ false
  pub sup : writes (link scenario s) (channel_cell superbank_channel) ≡ false

-- a step is of no surprise: it takes such an input, enters an interrupt, or executes an instruction that leads where its word tells
pub data IsTold (scenario : Scenario) (s : State) : Type 0 where
  ByInput : (given : Input × Option ℕ) → SparesWay scenario s given → IsTold scenario s
  ByEntry : (k : ℕ) → EntersInterrupt scenario s k → IsTold scenario s
  ByInstruction : (p : Spot) (code : Code) → GoesAsTold scenario s p code → IsTold scenario s

-- the word that is executed next, where it is one of fixed memory, is reached from some spots
abbrev pub IsCovered : Words → List Spot → State → Type 0
IsCovered words roots s = (p : Spot) → spot_of s ≡ Some p → Reached words roots p

-- the roots have the vectors
abbrev pub HaveVectors : List Spot → Type 0
HaveVectors roots = (q : Spot) → Among q vectors → Among q roots

-- A step that is told leads from what is reached to what is reached, where Z holds an address of 12 bits.
abbrev pub StepIsCovered : Scenario → List Spot → State → Type 0
StepIsCovered scenario roots s = next_address s < 0o10000 → HaveVectors roots → IsTold scenario s → IsCovered scenario.rope roots s
    → IsCovered scenario.rope roots (next scenario s).0

-- Each word of fixed memory that a run executes in n steps is reached from roots that have the vectors, where each step is told, or leads
-- to what is reached.
abbrev pub RunIsCovered : Scenario → List Spot → ℕ → Type 0
RunIsCovered scenario roots n =
    HaveVectors roots
    → ((t : ℕ) → t < n → IsTold scenario (run scenario t) ⊎ IsCovered scenario.rope roots (run scenario (t + 1)))
    → (t : ℕ) → t ≤ n → IsCovered scenario.rope roots (run scenario t)
