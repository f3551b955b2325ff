-- To which places the words of fixed memory lead without a branch.
use Rattle.std.specs.Prelude.{ℕ, zero, suc, ◌+◌, ◌*◌, ◌%◌, nat_le, Bool, true, false, not, ◌==◌}
use Rattle.std.specs.Prelude.{◌&&◌, ◌||◌, List, Option, None, Some, codes}
use Rattle.std.specs.Prelude.{if◌then◌else◌}
use Rattle.std.specs.Option.{option_map}
use Rattle.agc_text.specs.Tables.{same_name}
use Rattle.space.specs.Cells.{fixed_bank, program_counter}
use Rattle.space.specs.Places.{same_place}
use Rattle.space.specs.declared.place.Linear.{Linear}
use Rattle.space.specs.declared.place.Linear.TheVariants.{Erasable, Fixed}
use Rattle.rope.specs.Places.{Words, word_at}
use Rattle.cpu.specs.State.{State, first_address}
use Rattle.cpu.specs.Codes.{code_of, row_of}
use Rattle.cpu.specs.Operands.{address_of}
use Rattle.cpu.specs.Effects.{next_address, place_in}
use Rattle.branches.specs.declared.stand.Stand.{Stand}

-- the name of the instruction that a word is, under extracode or not, and the address that it names
abbrev pub name_of : Bool → ℕ → List ℕ
name_of extra word = (row_of (code_of extra word).instruction).name

abbrev pub named_by : Bool → ℕ → Option ℕ
named_by extra word = address_of (code_of extra word)

-- whether the address that is named is a register
abbrev pub is_register : ℕ → Option ℕ → Bool
is_register r None = false
is_register r (Some address) = r == address

-- a word that is come to at an address, where nothing waits for it; and the address after one
abbrev pub plain : ℕ → Stand
plain address = record { address = address; extra = false; indexed = false }

abbrev pub moved : ℕ → ℕ → ℕ
moved address n = (address + n) % 0o10000

-- the word after one; under extracode, or with a sum of INDEX
abbrev pub after_plain : Stand → Stand
after_plain at = plain (moved at.address 1)

abbrev pub after_extend : Stand → Stand
after_extend at = record { address = moved at.address 1; extra = true; indexed = false }

abbrev pub after_index : Stand → Stand
after_index at = record { address = moved at.address 1; extra = at.extra; indexed = true }

-- where a jump goes on; with a sum of INDEX no word tells it
abbrev pub after_jump : Bool → Option ℕ → Option Stand
after_jump true address = None
after_jump false address = option_map plain address

-- whether TC calls a routine, by the address behind it and the one that it names; TC to erasable memory, as RETURN, calls none, nor does TC
-- to itself
abbrev pub is_called : ℕ → Option ℕ → Bool
is_called behind None = false
is_called behind (Some address) = nat_le 0o2000 address && not (moved address 1 == behind)

-- where a program goes on behind TC, once the routine has returned that it calls
abbrev pub after_call : Stand → Option ℕ → Option Stand
after_call at address = if is_called (moved at.address 1) address then Some (after_plain at) else None

-- a branch, and RESUME: no word tells where they lead
abbrev pub is_branch : List ℕ → Bool
is_branch name = same_name name (codes "CCS") || same_name name (codes "BZF") || same_name name (codes "BZMF")
    || same_name name (codes "RESUME")

-- an instruction that names Z, as DTCF does, which is DXCH FB, and DTCB and TCAA
abbrev pub names_z : List ℕ → Option ℕ → Bool
names_z name address = is_register program_counter address || (same_name name (codes "DXCH") && is_register fixed_bank address)

-- Where a program goes on behind a word, by the name of its instruction and the address that it names, without a branch. TS is taken not to
-- skip.
abbrev pub onward_by : List ℕ → Stand → Option ℕ → Option Stand
onward_by name at address =
    if same_name name (codes "TCF") then after_jump at.indexed address
    else (if same_name name (codes "TC") then after_call at address
    else (if same_name name (codes "EXTEND") then Some (after_extend at)
    else (if same_name name (codes "INDEX") then Some (after_index at)
    else (if is_branch name || names_z name address then None
    else Some (after_plain at)))))

-- the same of the word at a place of fixed memory
abbrev pub onward : Words → Stand → Linear → Option Stand
onward words at (Erasable p) = None
onward words at (Fixed bank offset) =
    onward_by (name_of at.extra (word_at words bank offset)) at (named_by at.extra (word_at words bank offset))

-- whether an address leads to a place, where a state has its bank registers so
abbrev pub is_there : State → Linear → Option ℕ → Bool
is_there s place None = false
is_there s place (Some address) = same_place (place_in s address) place

-- whether a word calls the routine at a place
abbrev pub calls : Words → State → Linear → Stand → Linear → Bool
calls words s place at (Erasable p) = false
calls words s place at (Fixed bank offset) =
    not at.indexed && same_name (name_of at.extra (word_at words bank offset)) (codes "TC")
    && is_there s place (named_by at.extra (word_at words bank offset))

-- whether a word stands at a place, or calls the routine there
abbrev pub arrives_at : Words → State → Linear → Stand → Linear → Bool
arrives_at words s place at there = same_place there place || calls words s place at there

abbrev pub arrives : Words → State → Linear → Stand → Bool
arrives words s place at = arrives_at words s place at (place_in s at.address)

abbrev pub goes_on : (Stand → Bool) → Option Stand → Bool
goes_on leads None = false
goes_on leads (Some next) = leads next

-- whether one of so many words from one on does, as they follow one another without a branch
unfoldable pub leads_to : Words → State → Linear → ℕ → Stand → Bool
leads_to words s place zero at = false
leads_to words s place (suc left) at =
    arrives words s place at || goes_on (leads_to words s place left) (onward words at (place_in s at.address))

-- how many words are looked at
abbrev pub most_words : ℕ
most_words = 64

-- whether the words from one on lead to a place; those from an address on; and those where a state stands
abbrev pub leads_on : Words → State → Linear → Stand → Bool
leads_on words s place at = leads_to words s place most_words at

abbrev pub leads_from : Words → State → Linear → ℕ → Bool
leads_from words s place address = leads_on words s place (plain address)

abbrev pub is_on_the_way : Words → Linear → State → Bool
is_on_the_way words place s = leads_from words s place (next_address s)

-- the first of so many interrupts from one on whose entry leads to a place
abbrev pub entry_among : Words → State → Linear → ℕ → ℕ → Option ℕ
entry_among words s place k zero = None
entry_among words s place k (suc more) =
    if leads_from words s place (first_address + 4 * k) then Some k else entry_among words s place (k + 1) more

-- the first of all
unfoldable pub entry_to : Words → State → Linear → Option ℕ
entry_to words s place = entry_among words s place 1 10
