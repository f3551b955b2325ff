-- The places of switched banks that the words of a program name: those of the operands whose addresses stand in their fields.
use Rattle.std.specs.Prelude.{ℕ, ◌+◌, ◌*◌, ◌==◌, ◌||◌, not, nat_le, Bool, true, false, List, [], ◌∷◌, replicate, get_or, set, slice_get}
use Rattle.std.specs.Prelude.{Option, None, Some, Result, Ok, Err, if◌then◌else◌}
use Rattle.std.specs.Option.{option_map_or}
use Rattle.agc_text.specs.Lines.{lines}
use Rattle.rope.specs.Places.{bank_words, place_number}
use Rattle.space.specs.declared.place.Linear.{Linear}
use Rattle.space.specs.declared.place.Linear.TheVariants as place
use Rattle.yayul.specs.Flight.{statement_in}
use Rattle.yayul.specs.Layout.{Layout, start, line_effect, statement_on, value_of}
use Rattle.yayul.specs.Listing.{Shown, shown}
use Rattle.yayul.specs.Program.{Program}
use Rattle.yayul.specs.Language.{Address, Addressed, Channel, Content, Erasable, ErasablePlace, FaultKind, Fixed, FixedAddress, FixedPlace}
use Rattle.yayul.specs.Language.{Gives, Language, Location, Num, Operand, Operation, Pair, Takes, Undefined, Value}

-- for each place of fixed memory by its number the place that its word names, if any
abbrev pub Named : Type 0
Named = List (Option Linear)

-- how many places there are, those of the banks 044 to 047 included, where no word stands
abbrev pub named_words : ℕ
named_words = bank_words * 0o50

-- no word names a place
abbrev pub nothing_named : Named
nothing_named = replicate named_words None

-- the place that the word at a place names
abbrev pub named_at : Named → ℕ → ℕ → Option Linear
named_at named bank offset = get_or named (place_number bank offset) None

-- whether a field holds the address of what an instruction reads, writes or jumps to
abbrev pub holds_address : Takes → Bool
holds_address Address = true
holds_address Pair = true
holds_address FixedAddress = true
holds_address Channel = false
holds_address ErasablePlace = false
holds_address FixedPlace = false

-- what EB switches: erasable memory from 01400 on
abbrev pub is_switched_cell : ℕ → Bool
is_switched_cell n = nat_le 0o1400 n

-- what FB switches: each bank of fixed memory but 2 and 3
abbrev pub is_switched_bank : ℕ → Bool
is_switched_bank bank = not (bank == 2 || bank == 3)

-- the place of a switched bank that a value is
abbrev pub switched_of : Value → Option Linear
switched_of (Num n) = None
switched_of (Erasable n) = if is_switched_cell n then Some (place.Erasable n) else None
switched_of (Fixed bank n) = if is_switched_bank bank then Some (place.Fixed bank n) else None

abbrev pub switched_in : Result Value FaultKind → Option Linear
switched_in (Ok value) = switched_of value
switched_in (Err fault) = None

-- the place that an operand names, moved by its offset: a number names none, nor does an operand that counts from its own line, which
-- is taken to stand in bank 2
abbrev pub operand_names : List (List ℕ × Value) → Operand → Option Linear
operand_names table operand = switched_in (value_of Undefined table (Fixed 2 0) operand)

-- the place that the word of a content names
abbrev pub content_names : List (List ℕ × Value) → Content → Option Linear
content_names table (Addressed i operand) = if holds_address i.takes then operand_names table operand else None
content_names table _ = None

abbrev pub operation_names : List (List ℕ × Value) → Operation → Option Linear
operation_names table (Gives (Some content)) = content_names table content
operation_names table _ = None

-- what is named once a line is passed that shows the place of its word
abbrev pub line_named : List (List ℕ × Value) → Named → Shown → Operation → Named
line_named table named shown says =
    option_map_or (λ word. set named (place_number word.0 word.1) (operation_names table says)) (slice_get shown.words 0) named

-- what a line gives in a language, which is the same wherever the line stands
abbrev pub given_in : Language → List ℕ → Operation
given_in language text = (statement_in language (Location.Fixed 2 0) text).operation

-- what is named once some lines of a language are passed, the first of them with a number and what stands before it
abbrev pub lines_named : Language → List (List ℕ × Value) → Named → ℕ → Layout → List (List ℕ) → Named
lines_named language table named line s [] = named
lines_named language table named line s (text ∷ texts) =
    lines_named language table (line_named table named (shown s.location (statement_on s text)) (given_in language text)) (line + 1)
    (line_effect line s text).after texts

-- the places that the words of a program name, its symbols those of the whole source
unfoldable pub named_places : Program → Named
named_places p = lines_named p.source.language p.symbols nothing_named 1 (start p.source.language) (lines p.source.text)
