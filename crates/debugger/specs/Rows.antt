-- The row of a place: as the listing has it, or its word as the instruction that it is; or as a number in octal, in decimal, as a fraction
-- and in binary.
use Rattle.std.specs.Prelude.{ℕ, zero, suc, ◌*◌, ◌/◌, ◌%◌, ◌+◌, ◌^◌, nat_lt, List, [], ◌∷◌, ◌++◌, codes, decimal, if◌then◌else◌}
use Rattle.std.specs.Option.{option_map_or}
use Rattle.words.specs.Numbers.{neg}
use Rattle.words.specs.Numerals.{digit_zero, octal_text}
use Rattle.space.specs.declared.place.Linear.{Linear}
use Rattle.space.specs.declared.place.Linear.TheVariants.{Erasable, Fixed}
use Rattle.rope.specs.Places.{Words}
use Rattle.symbols.specs.Values.{SymbolTable}
use Rattle.yayul.specs.Listing.{place_text}
use Rattle.yayul.specs.PlaceRows.{line_of, place_row}
use Rattle.yayul.specs.Program.{Source}
use Rattle.names.specs.NamedLines.{named_line}
use Rattle.debugger.specs.declared.rows.RowKind.{RowKind}
use Rattle.debugger.specs.declared.rows.RowKind.TheVariants.{Instruction, Number}
use Rattle.debugger.specs.History.{Sight, History}
use Rattle.debugger.specs.Growth.{word_seen}
use Rattle.debugger.specs.Replies.{line, memory_word}

-- the row of a place without a source: of fixed memory the line that its word has with names, with the instruction that it is
abbrev pub plain_row : SymbolTable → Words → Sight → Linear → List ℕ
plain_row symbols rope seen (Erasable p) = line (codes "LIST " ++ place_text (Erasable p) ++ codes " " ++ octal_text 5 (word_seen seen p))
plain_row symbols rope seen (Fixed bank offset) = codes "LIST " ++ named_line symbols rope bank offset

-- the row of a place: that of the listing, with the word that stands there, where a line of the source shows the place
abbrev pub list_row : SymbolTable → Source → Words → History → Sight → Linear → List ℕ
list_row symbols source rope h seen place =
    option_map_or (λ l. codes "LIST " ++ place_row rope (memory_word h seen place) place l) (line_of source place)
    (plain_row symbols rope seen place)

-- the last k digits of n in a base
unfoldable pub based_text : ℕ → ℕ → ℕ → List ℕ
based_text base zero n = []
based_text base (suc k) n = based_text base k (n / base) ++ (digit_zero + n % base) ∷ []

-- the sign of a word in ones' complement, and its magnitude: 77777 is -0
abbrev pub sign_text : ℕ → List ℕ
sign_text w = if nat_lt w (2 ^ 14) then [] else codes "-"

abbrev pub magnitude : ℕ → ℕ
magnitude w = if nat_lt w (2 ^ 14) then w else neg w

-- a word as a whole number, and as a fraction: so many 2^14ths, exactly
abbrev pub whole_text : ℕ → List ℕ
whole_text w = sign_text w ++ decimal (magnitude w)

abbrev pub fraction_text : ℕ → List ℕ
fraction_text w = sign_text w ++ codes "0." ++ based_text 10 14 (5 ^ 14 * magnitude w)

-- a word in octal, in decimal, as a fraction and in binary
abbrev pub numbers_text : ℕ → List ℕ
numbers_text w =
    octal_text 5 w ++ codes " " ++ whole_text w ++ codes " " ++ fraction_text w ++ codes " " ++ based_text 2 15 w

-- the row of a place with its word as a number
abbrev pub value_row : History → Sight → Linear → List ℕ
value_row h seen place = line (codes "VALUE " ++ place_text place ++ codes " " ++ numbers_text (memory_word h seen place))

-- the row of a place, of a kind
abbrev pub row_text : RowKind → SymbolTable → Source → Words → History → Sight → Linear → List ℕ
row_text Instruction symbols source rope h seen place = list_row symbols source rope h seen place
row_text Number symbols source rope h seen place = value_row h seen place
