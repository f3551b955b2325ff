-- When two runs go the same way.
use Rattle.std.specs.Prelude.{◌≡◌, ℕ, ◌+◌, ◌<◌, Bool, Option, Some, None, List, [], ◌∷◌, ◌++◌, if◌then◌else◌, ◌||◌, is_some}
use Rattle.rope.specs.Places.{Words}
use Rattle.feed.specs.declared.input.Input.{Input}
use Rattle.feed.specs.declared.input.Input.TheVariants.{Count, Word, Interrupt}
use Rattle.feed.specs.Counters.{counter_place}
use Rattle.feed.specs.Merged.{due}
use Rattle.cpu.specs.State.{State, Scenario}
use Rattle.cpu.specs.Codes.{code_of}
use Rattle.cpu.specs.Effects.{next_address, place_in}
use Rattle.cpu.specs.Next.{entry, instruction_word, least_request, next}
use Rattle.cpu.specs.Run.{run}
use Rattle.cpu.specs.Links.{Link, a, link, place_spots, spots}
use Rattle.cpu.specs.Dependence.{SameLinks, StandAlike, origins}
use Rattle.cpu.specs.Beside.{SameFlags, sum_sources, word_sources}
use Rattle.cpu.specs.Chains.{IsChain, SameChain, chain_end, chain_origins}
use Rattle.cpu.specs.declared.spot.Spot.{Spot}
use Rattle.cpu.specs.declared.instruction.Instruction.{Instruction}
use Rattle.cpu.specs.declared.instruction.Instruction.TheVariants.{Ts}
use Rattle.debugger.specs.Ways.{chosen_by, way_spots}
use Rattle.way_laws.specs.Leading.{StandAtOnePlace, bank_spots}

-- the input that a step takes
abbrev pub input_of : Option (Input × Option ℕ) → Option Input
input_of None = None
input_of (Some given) = Some given.0

abbrev pub input_due : Scenario → State → Option Input
input_due scenario s = input_of (due scenario.inputs s.taken s.cycles)

-- ## What a way is found by

-- whether an interrupt is barred, whatever A holds
abbrev pub is_barred : State → Bool
is_barred s = s.inhibit || s.inside || s.extra || is_some s.waiting_sum || is_some s.waiting_word

-- A, where an interrupt is asked for and nothing but an overflow of A would bar it
abbrev pub entry_spots : State → List Spot
entry_spots s = if is_barred s then [] else (if is_some (least_request s.requests) then a ∷ [] else [])

-- the word at Z, where none waits
abbrev pub fetch_spots : State → List Spot
fetch_spots s = if is_some s.waiting_word then [] else spots (place_in s (next_address s))

-- A, where TS is executed: an overflow skips
abbrev pub overflow_spots : Instruction → List Spot
overflow_spots Ts = a ∷ []
overflow_spots _ = []

-- the counter of a pulse: whether it overflows, and asks for an interrupt
abbrev pub input_spots : Input → List Spot
input_spots (Count counter sequence) = place_spots (counter_place counter)
input_spots (Word n w) = []
input_spots (Interrupt k) = []

-- by what it is found which step is next, where this input is due and this interrupt is entered
abbrev pub finding_spots : Words → State → Option Input → Option ℕ → List Spot
finding_spots rope s (Some input) k = input_spots input
finding_spots rope s None (Some k) = entry_spots s
finding_spots rope s None None =
    entry_spots s ++ fetch_spots s ++ overflow_spots (code_of s.extra (instruction_word rope s)).instruction

-- by what a step sets Z and the banks, the sum that INDEX leaves, and the word that RESUME does
abbrev pub setting_spots : Link → List Spot
setting_spots k = way_spots k ++ bank_spots k ++ sum_sources k ++ word_sources k

-- what the next step of a state is found by, and where it leads
unfoldable pub guides : Scenario → State → List Spot
guides scenario s = finding_spots scenario.rope s (input_due scenario s) (entry s) ++ setting_spots (link scenario s)

-- Among these is what a step chooses by, as a session tells it.
abbrev pub GuidesChoices : Scenario → State → Scenario → State → Type 0
GuidesChoices one s other t =
    StandAlike one.rope s other.rope t (guides one s) → StandAlike one.rope s other.rope t (chosen_by one s)

-- ## One step

-- Z and the banks are the same, the flags, what waits, and the interrupts asked for; all other words may differ
pub record SamePosition (one : Scenario) (s : State) (other : Scenario) (t : State) : Type 0 where
  pub place : StandAtOnePlace one s other t
  pub flags : SameFlags s t
  pub sum : s.waiting_sum ≡ t.waiting_sum
  pub word : s.waiting_word ≡ t.waiting_word
  pub requests : s.requests ≡ t.requests

-- two runs make the same step, and then are in the same position
pub record StepAlike (one : Scenario) (s : State) (other : Scenario) (t : State) : Type 0 where
  pub step : link one s ≡ link other t
  pub position : SamePosition one (next one s).0 other (next other t).0

-- Which step is next, and where it leads, depends on the position, on the input that is due, and on the guides, and on nothing else.
abbrev pub GuidesFixStep : Scenario → State → Scenario → State → Type 0
GuidesFixStep one s other t =
    SamePosition one s other t → input_due one s ≡ input_due other t → StandAlike one.rope s other.rope t (guides one s)
    → StepAlike one s other t

-- ## Many steps

-- from steps m and n on two runs make k same steps, and then are in the same position
pub record GoTheSameWay (one : Scenario) (m : ℕ) (other : Scenario) (n k : ℕ) : Type 0 where
  pub steps : SameLinks one m other n k
  pub position : SamePosition one (run one (m + k)) other (run other (n + k))

-- the same inputs are taken at the same steps
abbrev pub SameInputs : Scenario → ℕ → Scenario → ℕ → ℕ → Type 0
SameInputs one m other n k = (j : ℕ) → j < k → input_due one (run one (m + j)) ≡ input_due other (run other (n + j))

-- the guides of the step after j steps from step m on
abbrev pub guides_at : Scenario → ℕ → ℕ → List Spot
guides_at scenario m j = guides scenario (run scenario (m + j))

-- The way depends on the position from which it goes, on the inputs at its steps, and on the words from which its guides come, and on
-- nothing else.
abbrev pub WayDependsOnOrigins : Scenario → ℕ → Scenario → ℕ → ℕ → Type 0
WayDependsOnOrigins one m other n k =
    SamePosition one (run one m) other (run other n) → SameInputs one m other n k
    → ((j : ℕ) → j < k → StandAlike one.rope (run one m) other.rope (run other n) (origins one m j (guides_at one m j)))
    → GoTheSameWay one m other n k

-- what stands at a spot comes in two runs by chains of the same links from the same words
pub record ComesAlike (one : Scenario) (p : ℕ) (other : Scenario) (n : ℕ) (x : Spot) : Type 0 where
  pub steps : List ℕ
  pub others : List ℕ
  pub chain : IsChain one p (x ∷ []) steps
  pub other_chain : IsChain other n (x ∷ []) others
  pub same : SameChain one steps other others
  pub alike : StandAlike one.rope (run one (chain_end p steps)) other.rope (run other (chain_end n others))
      (chain_origins one (x ∷ []) steps)

abbrev pub EachComesAlike : Scenario → ℕ → Scenario → ℕ → List Spot → Type 0
EachComesAlike one p other n [] = Unit {0}
EachComesAlike one p other n (x ∷ xs) = ComesAlike one p other n x × EachComesAlike one p other n xs

-- so come the guides of each of k steps
abbrev pub GuidesComeAlike : Scenario → ℕ → Scenario → ℕ → ℕ → Type 0
GuidesComeAlike one m other n k = (j : ℕ) → j < k → EachComesAlike one (m + j) other (n + j) (guides_at one m j)

-- Two runs, of any ropes and feeds, whose guides come by the same chains from the same words, go the same way where the same inputs are
-- taken at the same steps; from the start, or from any two steps in the same position.
abbrev pub ChainsFixWay : Scenario → ℕ → Scenario → ℕ → ℕ → Type 0
ChainsFixWay one m other n k =
    SamePosition one (run one m) other (run other n) → SameInputs one m other n k → GuidesComeAlike one m other n k
    → GoTheSameWay one m other n k

abbrev pub ChainsFixWayFromStart : Scenario → Scenario → ℕ → Type 0
ChainsFixWayFromStart one other k = SameInputs one 0 other 0 k → GuidesComeAlike one 0 other 0 k → GoTheSameWay one 0 other 0 k
