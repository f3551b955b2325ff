-- What the steps before a step have left, by which it is told what it does: what the interrupt that was entered last has found, whether the
-- words that keys have left were read, which interrupts were entered, by the places of which the program itself came, on which channels
-- words came, and which were read.
use Rattle.std.specs.Prelude.{ℕ, zero, suc, ◌+◌, ◌/◌, ◌%◌, ◌==◌, ◌&&◌, ◌||◌, nat_le, nat_lt, Bool, true, false, not, List, get_or, set}
use Rattle.std.specs.Prelude.{replicate, Option, Some, None, is_some, if◌then◌else◌}
use Rattle.feed.specs.declared.input.Input.{Input}
use Rattle.feed.specs.declared.input.Input.TheVariants.{Count, Word, Interrupt}
use Rattle.space.specs.declared.place.Linear.{Linear}
use Rattle.space.specs.declared.place.Linear.TheVariants.{Erasable, Fixed}
use Rattle.cpu.specs.Inputs.{first_keyboard_channel, second_keyboard_channel}
use Rattle.space.specs.Cells.{get, get_channel, return_address, erasable_bank, fixed_bank, superbank_channel}
use Rattle.cpu.specs.declared.next_step.Fetched.{Fetched}
use Rattle.cpu.specs.declared.next_step.NextStep.{NextStep}
use Rattle.cpu.specs.declared.next_step.NextStep.TheVariants.{Takes, Enters, Executes}
use Rattle.cpu.specs.Effects.{accumulator_of, lower_of, next_address}
use Rattle.cpu.specs.NextStep.{next_step}
use Rattle.cpu.specs.Run.{run}
use Rattle.cpu.specs.State.{State, Scenario, interrupted_address}
use Rattle.notes.specs.declared.past.Kept.{Kept}
use Rattle.notes.specs.declared.past.Past.{Past}

-- what an interrupt finds that is entered in a state: A, L, Q, EB, FB and the superbank's channel, and where it has to go back
abbrev pub kept_by : State → Kept
kept_by s =
    record {
      a = accumulator_of s;
      l = lower_of s;
      q = get s.cells return_address;
      eb = get s.cells erasable_bank;
      fb = get s.cells fixed_bank;
      superbank = get_channel s.cells superbank_channel;
      back = (next_address s % 0o10000 + 1) % 0o10000;
    }

-- whether all of them are again as they were
abbrev pub is_as : State → Kept → Bool
is_as s k =
    accumulator_of s == k.a && lower_of s == k.l && get s.cells return_address == k.q && get s.cells erasable_bank == k.eb
    && get s.cells fixed_bank == k.fb
    && get_channel s.cells superbank_channel == k.superbank

-- whether RESUME goes back where the interrupt was entered: a handler that has set ZRUPT leads elsewhere
abbrev pub goes_back : State → Kept → Bool
goes_back s k = get s.cells interrupted_address == k.back

abbrev pub is_lost : State → Option Kept → Bool
is_lost s None = false
is_lost s (Some k) = goes_back s k && not (is_as s k)

-- RESUME goes back while one of them is not as it was
abbrev pub loses : State → Past → Fetched → Bool
loses s p f = not f.extra && f.word == 0o50017 && s.inside && is_lost s p.entry

-- how many channels there are
abbrev pub channels : ℕ
channels = 0o1000

-- READ, RAND, WAND, ROR, WOR or RXOR of a channel, which is named by the low 9 bits
abbrev pub reads_channel : Fetched → Bool
reads_channel f = f.extra && nat_lt f.word 0o7000 && not (f.word / 0o1000 == 1)

abbrev pub reads_on : ℕ → Fetched → Bool
reads_on n f = reads_channel f && f.word % channels == n

-- a word comes on a channel
abbrev pub comes_on : ℕ → Input → Bool
comes_on n (Word m w) = m == n
comes_on n input = false

-- whether the last word that came on a channel is unread after a step: another one comes, or no instruction reads it
abbrev pub unread_by : ℕ → Bool → NextStep → Bool
unread_by n before (Takes input) = before || comes_on n input
unread_by n before (Enters k) = before
unread_by n before (Executes f) = before && not (reads_on n f)

-- a key's word comes where the one before it is unread
abbrev pub overwrites : Past → Input → Bool
overwrites p input = (p.first_key && comes_on first_keyboard_channel input) || (p.second_key && comes_on second_keyboard_channel input)

-- L, Q and the superbank are used without an instruction that reads their channels
abbrev pub is_used_otherwise : ℕ → Bool
is_used_otherwise n = n == 1 || n == 2 || n == 7

-- the cycles before the first word on each channel, after one more
abbrev pub came_first : List (Option ℕ) → ℕ → ℕ → List (Option ℕ)
came_first came n cycles = if is_some (get_or came n None) then came else set came n (Some cycles)

abbrev pub came_after : State → List (Option ℕ) → Input → List (Option ℕ)
came_after s came (Count counter sequence) = came
came_after s came (Word n w) = if is_used_otherwise n then came else came_first came n s.cycles
came_after s came (Interrupt k) = came

abbrev pub came_by : State → List (Option ℕ) → NextStep → List (Option ℕ)
came_by s came (Takes input) = came_after s came input
came_by s came (Enters k) = came
came_by s came (Executes f) = came

-- which channels some instruction has read, after one more
abbrev pub read_after : List Bool → Fetched → List Bool
read_after read f = if reads_channel f then set read (f.word % channels) true else read

abbrev pub read_by : List Bool → NextStep → List Bool
read_by read (Takes input) = read
read_by read (Enters k) = read
read_by read (Executes f) = read_after read f

-- the interrupt that is entered at a place
abbrev pub entered_at : Linear → Option ℕ
entered_at (Erasable p) = None
entered_at (Fixed bank offset) = if bank == 2 && nat_le 4 offset && nat_lt offset 44 && offset % 4 == 0 then Some (offset / 4) else None

-- the interrupt by whose place an instruction comes that is executed outside of interrupts
abbrev pub comes_by : State → Fetched → Option ℕ
comes_by s f = if s.inside || f.waited then None else entered_at f.place

-- a flag for each interrupt by its number, and one for 0, which is none
abbrev pub marked : List Bool → Option ℕ → List Bool
marked flags None = flags
marked flags (Some k) = set flags k true

abbrev pub is_marked : List Bool → Option ℕ → Bool
is_marked flags None = false
is_marked flags (Some k) = get_or flags k false

-- whether an instruction at the place of an interrupt, or at none, is known: the program came by there before, and no interrupt was entered
abbrev pub is_passed : Past → Option ℕ → Bool
is_passed p k = not (is_some k) || (is_marked p.passed k && not (is_marked p.entered k))

-- an interrupt is entered at a place by which the program itself came; the program comes by one where an interrupt was entered, or to
-- RESUME of none
abbrev pub enters_shared : Past → ℕ → Bool
enters_shared p k = get_or p.passed k false

abbrev pub executes_shared : State → Past → Fetched → Bool
executes_shared s p f = (not f.extra && f.word == 0o50017 && not s.inside) || is_marked p.entered (comes_by s f)

-- before the first step
abbrev pub no_past : Past
no_past =
    record {
      entry = None;
      first_key = false;
      second_key = false;
      entered = replicate 11 false;
      passed = replicate 11 false;
      came = replicate channels None;
      read = replicate channels false;
    }

-- after a step
abbrev pub entry_by : State → Option Kept → NextStep → Option Kept
entry_by s before (Takes input) = before
entry_by s before (Enters k) = Some (kept_by s)
entry_by s before (Executes f) = before

abbrev pub entered_by : List Bool → NextStep → List Bool
entered_by flags (Takes input) = flags
entered_by flags (Enters k) = set flags k true
entered_by flags (Executes f) = flags

abbrev pub passed_by : State → List Bool → NextStep → List Bool
passed_by s flags (Takes input) = flags
passed_by s flags (Enters k) = flags
passed_by s flags (Executes f) = marked flags (comes_by s f)

abbrev pub past_by : State → Past → NextStep → Past
past_by s p step =
    record {
      entry = entry_by s p.entry step;
      first_key = unread_by first_keyboard_channel p.first_key step;
      second_key = unread_by second_keyboard_channel p.second_key step;
      entered = entered_by p.entered step;
      passed = passed_by s p.passed step;
      came = came_by s p.came step;
      read = read_by p.read step;
    }

unfoldable pub past : Scenario → ℕ → Past
past scenario zero = no_past
past scenario (suc n) = past_by (run scenario n) (past scenario n) (next_step scenario (run scenario n))

-- a state, and the past that has led to it
pub record Seen : Type 0 where
  pub state : State
  pub past : Past

abbrev pub seen : Scenario → ℕ → Seen
seen scenario n = record { state = run scenario n; past = past scenario n }
