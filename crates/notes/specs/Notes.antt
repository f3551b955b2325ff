-- What happens in a step that is seldom meant.
use Rattle.std.specs.Prelude.{ℕ, ◌+◌, ◌*◌, ◌/◌, ◌%◌, ◌==◌, ◌&&◌, ◌||◌, nat_le, nat_lt, Bool, true, false, not, List, codes, Option, Some}
use Rattle.std.specs.Prelude.{None, is_some, if◌then◌else◌}
use Rattle.words.specs.Numbers.{correct}
use Rattle.words.specs.Products.{quotient_fits}
use Rattle.words.specs.Signs.{over}
use Rattle.agc_text.specs.Tables.{same_name}
use Rattle.space.specs.Cells.{return_address, program_counter}
use Rattle.space.specs.declared.place.Linear.{Linear}
use Rattle.space.specs.declared.place.Linear.TheVariants.{Erasable, Fixed}
use Rattle.rope.specs.Places.{Words, bank_words, stands, word_at}
use Rattle.yayul.specs.Named.{Named, named_at}
use Rattle.cpu.specs.declared.next_step.Fetched.{Fetched}
use Rattle.cpu.specs.declared.next_step.NextStep.{NextStep}
use Rattle.cpu.specs.declared.next_step.NextStep.TheVariants.{Takes, Enters, Executes}
use Rattle.cpu.specs.Codes.{Code, code_of, row_of}
use Rattle.cpu.specs.Effects.{accumulator_of, lower_of, next_address, place_in, value_at, has_overflow}
use Rattle.cpu.specs.NextStep.{next_step}
use Rattle.cpu.specs.Operands.{address_of}
use Rattle.cpu.specs.State.{State, Scenario}
use Rattle.notes.specs.declared.kind.Kind.{Kind}
use Rattle.notes.specs.declared.kind.Kind.TheVariants.{Quotient, Skip, NoWord, InErasable, NoHandler, OtherBank, NotKept, MinusZero}
use Rattle.notes.specs.declared.kind.Kind.TheVariants.{Overwritten, Shared, FixedBank}
use Rattle.notes.specs.declared.past.Past.{Past}
use Rattle.notes.specs.Past.{Seen, comes_by, enters_shared, executes_shared, is_passed, loses, overwrites, reads_channel}

-- the instruction that is executed
abbrev pub code_in : Fetched → Code
code_in f = code_of f.extra f.word

abbrev pub is_named : Fetched → List ℕ → Bool
is_named f name = same_name (row_of (code_in f).instruction).name name

-- whether it names Z
abbrev pub is_z : Linear → Bool
is_z (Erasable p) = p == program_counter
is_z (Fixed bank offset) = false

abbrev pub leads_to_z : State → Option ℕ → Bool
leads_to_z s None = false
leads_to_z s (Some k) = is_z (place_in s k)

abbrev pub names_z : State → Fetched → Bool
names_z s f = leads_to_z s (address_of (code_in f))

-- the quotient of A and L by what a place holds does not fit: A becomes the greatest, and L stays. A division by Z is none of these
abbrev pub is_too_great : Words → State → Linear → Bool
is_too_great rope s place =
    not (is_z place) && not (quotient_fits (correct (accumulator_of s)) (correct (lower_of s)) (correct (value_at rope s place)))

abbrev pub is_too_great_at : Words → State → Option ℕ → Bool
is_too_great_at rope s None = false
is_too_great_at rope s (Some k) = is_too_great rope s (place_in s k)

-- that of DV
abbrev pub divides : Words → State → Fetched → Bool
divides rope s f = is_named f (codes "DV") && is_too_great_at rope s (address_of (code_in f))

-- TS skips: A overflows, and Z does not take it
abbrev pub skips : State → Fetched → Bool
skips s f = is_named f (codes "TS") && has_overflow (over (accumulator_of s)) && not (names_z s f)

-- whether a word stands at a place; at one of erasable memory always
abbrev pub has_word : Words → Linear → Bool
has_word rope (Erasable p) = true
has_word rope (Fixed bank offset) = stands rope bank offset

-- whether a place is one of erasable memory, but Q, where RETURN leads
abbrev pub is_code_in_erasable : Linear → Bool
is_code_in_erasable (Erasable p) = not (p == return_address)
is_code_in_erasable (Fixed bank offset) = false

-- TC to a place of fixed memory, which each way back is that TC leaves in Q
abbrev pub is_way_back : Fetched → Bool
is_way_back f = not f.extra && nat_le 0o2000 f.word && nat_lt f.word 0o10000

-- the place that the source of the word at a place names: none of a word in erasable memory
abbrev pub place_named : Named → Linear → Option Linear
place_named named (Erasable p) = None
place_named named (Fixed bank offset) = named_at named bank offset

-- whether it is one of erasable memory
abbrev pub is_erasable : Option Linear → Bool
is_erasable None = false
is_erasable (Some (Erasable p)) = true
is_erasable (Some (Fixed bank offset)) = false

-- whether a place is in another bank than one that is named
abbrev pub is_elsewhere : Linear → Linear → Bool
is_elsewhere (Erasable n) (Erasable p) = not (p / 0o400 == n / 0o400)
is_elsewhere (Fixed other n) (Fixed bank offset) = not (bank == other)
is_elsewhere (Erasable n) (Fixed bank offset) = true
is_elsewhere (Fixed other n) (Erasable p) = true

abbrev pub leads_elsewhere : State → Option Linear → Option ℕ → Bool
leads_elsewhere s (Some other) (Some k) = is_elsewhere other (place_in s k)
leads_elsewhere s _ _ = false

-- an instruction reaches another bank than that of the place that its source names. What INDEX added something to is passed over, for its
-- source does not say where it leads; and so is a word that waited
abbrev pub reaches_other : Named → State → Fetched → Bool
reaches_other named s f = not f.waited && not (is_some f.added) && leads_elsewhere s (place_named named f.place) (address_of (code_in f))

-- CCS, which has four ways: for what is above +0, +0, below -0, and -0
abbrev pub is_ccs : Fetched → Bool
is_ccs f = not f.extra && nat_le 0o10000 f.word && nat_lt f.word 0o12000

-- whether what it reads is -0
abbrev pub is_minus_zero : Words → State → Linear → Bool
is_minus_zero rope s place = correct (value_at rope s place) == 0o77777

abbrev pub counts_minus_zero : Words → State → Fetched → Bool
counts_minus_zero rope s f = is_ccs f && is_minus_zero rope s (place_in s (f.word % 0o2000))

-- the way of +0 and that of -0 are one: the same word stands there, or at that of +0 a TCF to the other
abbrev pub is_one_way : Words → ℕ → ℕ → ℕ → Bool
is_one_way rope z bank offset =
    word_at rope bank (offset + 2) == word_at rope bank (offset + 4)
    || word_at rope bank (offset + 2) == 0o10000 + (z % 0o10000 + 4) % 0o10000

abbrev pub has_two_ways : Words → State → Linear → Bool
has_two_ways rope s (Erasable p) = false
has_two_ways rope s (Fixed bank offset) = nat_lt (offset + 4) bank_words && not (is_one_way rope (next_address s) bank offset)

-- CCS of -0 goes another way than +0 would. A word that waited is passed over
abbrev pub parts_zeros : Words → State → Fetched → Bool
parts_zeros rope s f = not f.waited && counts_minus_zero rope s f && has_two_ways rope s f.place

-- whether something of a kind happens in a step, after what was before. A word that waited, as RESUME leaves it, stands nowhere
abbrev pub happens_in : Named → Words → State → Past → Kind → NextStep → Bool
happens_in named rope s p NoHandler (Enters k) = not (stands rope 2 (4 * k))
happens_in named rope s p NoWord (Executes f) = not f.waited && not (has_word rope f.place)
happens_in named rope s p InErasable (Executes f) = not f.waited && is_code_in_erasable f.place && not (is_way_back f)
happens_in named rope s p OtherBank (Executes f) = reaches_other named s f && is_erasable (place_named named f.place)
happens_in named rope s p FixedBank (Executes f) = reaches_other named s f && not (is_erasable (place_named named f.place))
happens_in named rope s p Skip (Executes f) = skips s f
happens_in named rope s p Quotient (Executes f) = divides rope s f
happens_in named rope s p NotKept (Executes f) = loses s p f
happens_in named rope s p MinusZero (Executes f) = parts_zeros rope s f
happens_in named rope s p Overwritten (Takes input) = overwrites p input
happens_in named rope s p Shared (Enters k) = enters_shared p k
happens_in named rope s p Shared (Executes f) = executes_shared s p f
happens_in named rope s p kind step = false

-- the same, where it is known which places the words name
unfoldable pub happens : Named → Scenario → Kind → Seen → Bool
happens named scenario kind w = happens_in named scenario.rope w.state w.past kind (next_step scenario w.state)

-- ## Steps of which no kind is but another bank
abbrev pub is_at_word : Words → Linear → Bool
is_at_word rope (Erasable p) = false
is_at_word rope (Fixed bank offset) = stands rope bank offset

-- an instruction that reads no channel and is none of the few that are told
abbrev pub is_plain_code : Words → State → Fetched → Bool
is_plain_code rope s f =
    if f.extra then not (reads_channel f) && not (divides rope s f)
    else not (f.word == 0o50017) && (not (skips s f) && not (counts_minus_zero rope s f))

-- an instruction of which nothing is told but that it reaches another bank
abbrev pub is_plain : Words → State → Past → Fetched → Bool
is_plain rope s p f =
    not f.waited && (is_at_word rope f.place && (is_passed p (comes_by s f) && is_plain_code rope s f))

abbrev pub is_plain_step : Words → State → Past → NextStep → Bool
is_plain_step rope s p (Executes f) = is_plain rope s p f
is_plain_step rope s p step = false

abbrev pub reaches_in : Named → State → NextStep → Bool
reaches_in named s (Executes f) = reaches_other named s f
reaches_in named s step = false

abbrev pub names_erasable_in : Named → NextStep → Bool
names_erasable_in named (Executes f) = is_erasable (place_named named f.place)
names_erasable_in named step = false

-- an instruction of which nothing is told
abbrev pub is_quiet_step : Named → Words → State → Past → NextStep → Bool
is_quiet_step named rope s p step = is_plain_step rope s p step && not (reaches_in named s step)
