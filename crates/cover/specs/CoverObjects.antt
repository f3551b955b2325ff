-- The rows of a run's profile as JSON: an object a line.
use Rattle.std.specs.Prelude.{ℕ, ◌==◌, List, [], ◌++◌, codes, decimal, if◌then◌else◌, Option, None, Some}
use Rattle.json_text.specs.Strings.{json_string, string_or_null}
use Rattle.space.specs.declared.place.Linear.{Linear}
use Rattle.space.specs.declared.place.Linear.TheVariants.{Fixed}
use Rattle.rope.specs.Places.{Words}
use Rattle.symbols.specs.Values.{SymbolTable}
use Rattle.yayul.specs.Listing.{Margin, place_text}
use Rattle.yayul.specs.ListingObjects.{word_members}
use Rattle.audit.specs.WordLines.{instruction_at}
use Rattle.trace.specs.TraceLines.{symbol_at}
use Rattle.names.specs.NamedLines.{named_instruction}
use Rattle.cpu.specs.declared.account.Account.TheVariants.{Place}
use Rattle.cover.specs.declared.tally.Figures.{Figures}
use Rattle.cover.specs.Tallies.{Profile}

-- the symbol of a place, where names are known: the first that stands for it
abbrev pub symbol_in : Option SymbolTable → Linear → Option (List ℕ)
symbol_in None place = None
symbol_in (Some symbols) place = symbol_at symbols place

-- the members of figures: how often, and the cycles
unfoldable pub figure_members : Figures → List ℕ
figure_members f = codes ",\"count\":" ++ (decimal f.count ++ (codes ",\"cycles\":" ++ decimal f.cycles))

-- those of a place: its symbol and its figures
unfoldable pub account_members : Option SymbolTable → Figures → Linear → List ℕ
account_members names f place = codes ",\"symbol\":" ++ (string_or_null (symbol_in names place) ++ figure_members f)

-- those of a row's word; a row without a word has none of them
abbrev pub members_of : Option SymbolTable → Profile → Margin
members_of names profile None = codes ",\"symbol\":null,\"count\":null,\"cycles\":null"
members_of names profile (Some p) = account_members names (profile (Place (Fixed p.0 p.1))) (Fixed p.0 p.1)

-- the object of a place that no other row shows, where it was executed
unfoldable pub place_object : Option SymbolTable → Figures → Linear → List ℕ
place_object names f place =
    codes "{\"kind\":\"place\",\"place\":\"" ++ (place_text place ++ (codes "\"" ++ (account_members names f place ++ codes "}\n")))

unfoldable pub bare_object : Option SymbolTable → Figures → Linear → List ℕ
bare_object names f place = if f.count == 0 then [] else place_object names f place

-- that of what is executed at no place, and of all steps, by its name
unfoldable pub figure_object : Figures → List ℕ → List ℕ
figure_object f name = codes "{\"kind\":\"" ++ (name ++ (codes "\"" ++ (figure_members f ++ codes "}\n")))

-- the instruction that a word of an image is, with names or without
abbrev pub instruction_in : Option SymbolTable → Words → ℕ → ℕ → List ℕ
instruction_in None words bank offset = instruction_at words bank offset
instruction_in (Some names) words bank offset = named_instruction names words bank offset

-- the object of a word of an image
unfoldable pub image_object : Option SymbolTable → Figures → Words → ℕ → ℕ → List ℕ
image_object names f words bank offset =
    codes "{\"kind\":\"word\"" ++ (word_members words bank offset ++ (account_members names f (Fixed bank offset)
    ++ (codes ",\"text\":" ++ (json_string (instruction_in names words bank offset) ++ codes "}\n"))))
