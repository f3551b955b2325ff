-- The cross-reference of an image: for each name of a place this place, and the words whose addresses lead to it, with what they do there.
use Rattle.std.specs.Prelude.{ℕ, ◌==◌, Bool, List, [], ◌∷◌, ◌++◌, length, filter, codes, decimal, is_some, Option, None, Some}
use Rattle.std.specs.Prelude.{option_and_then, if◌then◌else◌}
use Rattle.std.specs.List.{range_with_len, flat_map}
use Rattle.space.specs.Places.{same_place}
use Rattle.space.specs.declared.place.Linear.{Linear}
use Rattle.space.specs.declared.place.Linear.TheVariants as linear
use Rattle.rope.specs.Places.{Words, bank_words, banks, word_at}
use Rattle.cpu.specs.Codes.{Code, code_of}
use Rattle.cpu.specs.Operands.{address_of}
use Rattle.audit.specs.WordLines.{extracode_at}
use Rattle.symbols.specs.Values.{SymbolTable}
use Rattle.symbols.specs.declared.values.Value.{Value}
use Rattle.symbols.specs.declared.values.Value.TheVariants as value
use Rattle.yayul.specs.Listing.{place_text}
use Rattle.names.specs.NamedLines.{place_told}
use Rattle.xref.specs.Xref.{use_column}
use Rattle.xref.specs.declared.use_of.Use.{Use}
use Rattle.xref.specs.declared.use_of.Use.TheVariants.{Defined}
use Rattle.names.specs.Instructions.{use_by}
use Rattle.names.specs.declared.mention.Mention.{Mention}

-- what the word at a place does with the place to which its address leads, where it names one that the image tells
abbrev pub mentions_by : ℕ → ℕ → Use → Option Linear → List Mention
mentions_by bank offset used None = []
mentions_by bank offset used (Some place) = record { bank = bank; offset = offset; place = place; used = used } ∷ []

abbrev pub mentions_of : ℕ → ℕ → Code → List Mention
mentions_of bank offset code =
    mentions_by bank offset (use_by code.instruction) (option_and_then (place_told bank) (address_of code))

-- a word is read as an extracode as in its line; that of no word, 00000, counts for none
unfoldable pub mention_at : Words → ℕ → ℕ → List Mention
mention_at words bank offset =
    if word_at words bank offset == 0 then []
    else mentions_of bank offset (code_of (extracode_at words bank offset) (word_at words bank offset))

-- those of the words of a bank, by rising offsets; and of one bank, or of all by their numbers
unfoldable pub bank_mentions : Words → ℕ → List Mention
bank_mentions words bank = flat_map (mention_at words bank) (range_with_len 0 bank_words)

abbrev pub mentions : Words → Option ℕ → List Mention
mentions words None = flat_map (bank_mentions words) (range_with_len 0 banks)
mentions words (Some bank) = bank_mentions words bank

-- the place of a name: a number has none, which may mean a channel as well
abbrev pub place_of : Value → Option Linear
place_of (value.Num n) = None
place_of (value.Erasable n) = Some (linear.Erasable n)
place_of (value.Fixed bank n) = Some (linear.Fixed bank n)

-- the row of a name, a comment as tables of names have them: the place of what uses it, the name, and what is done with it
abbrev pub use_row : List ℕ → Linear → Use → List ℕ
use_row name place used = (codes "# " ++ place_text place ++ codes " ") ++ (name ++ use_column name used)

abbrev pub mention_row : List ℕ → Mention → List ℕ
mention_row name m = use_row name (linear.Fixed m.bank m.offset) m.used

-- the row of what leads to a place, and those of all that do
abbrev pub row_where : List ℕ → Linear → Mention → List ℕ
row_where name place m = if same_place m.place place then mention_row name m else []

abbrev pub rows_of : List ℕ → Linear → List Mention → List ℕ
rows_of name place ms = flat_map (row_where name place) ms

-- the rows of a name, first that of its own place
abbrev pub rows_by : List Mention → List ℕ → Option Linear → List ℕ
rows_by ms name None = []
rows_by ms name (Some place) = use_row name place Defined ++ rows_of name place ms

abbrev pub symbol_rows : List Mention → List ℕ × Value → List ℕ
symbol_rows ms symbol = rows_by ms symbol.0 (place_of symbol.1)

abbrev pub rows_in : SymbolTable → List Mention → List ℕ
rows_in names ms = flat_map (symbol_rows ms) names

-- how many names have a place
abbrev pub has_place : List ℕ × Value → Bool
has_place symbol = is_some (place_of symbol.1)

abbrev pub uses_head : SymbolTable → List ℕ
uses_head names = codes "# XREF " ++ decimal (length (filter has_place names)) ++ codes "\n"

unfoldable pub uses_text : SymbolTable → List Mention → List ℕ
uses_text names ms = uses_head names ++ rows_in names ms

-- the cross-reference of one bank's words, or of all
abbrev pub cross_reference : SymbolTable → Words → Option ℕ → List ℕ
cross_reference names words bank = uses_text names (mentions words bank)
