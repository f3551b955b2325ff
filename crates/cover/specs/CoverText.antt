-- A run's profile as text: the rows of a listing, or the words of an image, each with how often its word was executed and the
-- cycles that this took before it. As JSON it has an object in place of each row.
use Rattle.std.specs.Prelude.{ℕ, ◌-◌, ◌==◌, List, [], ◌++◌, length, codes, decimal, if◌then◌else◌, Option, None, Some}
use Rattle.std.specs.List.{range_with_len, flat_map}
use Rattle.agc_text.specs.Lines.{lines}
use Rattle.json_text.specs.declared.notation.Notation.{Notation}
use Rattle.json_text.specs.declared.notation.Notation.TheVariants.{Text, Json}
use Rattle.space.specs.Cells.{erasable_count}
use Rattle.space.specs.declared.place.Linear.{Linear}
use Rattle.space.specs.declared.place.Linear.TheVariants.{Erasable, Fixed}
use Rattle.rope.specs.Places.{Words, banks, bank_words, stands}
use Rattle.yayul.specs.Layout.{start}
use Rattle.symbols.specs.Values.{SymbolTable}
use Rattle.yayul.specs.Program.{Source}
use Rattle.yayul.specs.Listing.{Margin, blanks, place_text, rows}
use Rattle.yayul.specs.ListingObjects.{line_in}
use Rattle.audit.specs.WordLines.{word_line}
use Rattle.names.specs.NamedLines.{named_line}
use Rattle.cpu.specs.declared.account.Account.TheVariants.{Input, Entry, Waiting, Place}
use Rattle.cpu.specs.Run.{run}
use Rattle.cpu.specs.State.{Scenario}
use Rattle.cover.specs.declared.shown.Shown.{Shown}
use Rattle.cover.specs.declared.shown.Shown.TheVariants as shown
use Rattle.cover.specs.declared.tally.Figures.{Figures}
use Rattle.cover.specs.CoverObjects.{bare_object, figure_object, image_object, members_of}
use Rattle.cover.specs.Tallies.{Profile, profile_of, selected_banks}

-- a text right in 10 places, and a blank
abbrev pub column : List ℕ → List ℕ
column text = (blanks (10 - length text) ++ text) ++ codes " "

-- the columns of figures: how often, and the cycles; of what was never executed a sign in each
unfoldable pub figure_columns : Figures → List ℕ
figure_columns f = if f.count == 0 then column (codes "-") ++ column (codes "-") else column (decimal f.count) ++ column (decimal f.cycles)

-- what stands before a row, by the place of its word; where it has none, blanks as wide as the columns
abbrev pub margin_of : Profile → Margin
margin_of profile None = blanks 22
margin_of profile (Some p) = figure_columns (profile (Place (Fixed p.0 p.1)))

-- what a row of a notation has of its word
abbrev pub margin_in : Notation → Option SymbolTable → Profile → Margin
margin_in Text names profile = margin_of profile
margin_in Json names profile = members_of names profile

-- a row below the words: figures, and what they are of
abbrev pub figure_row : Figures → List ℕ → List ℕ
figure_row f name = figure_columns f ++ (name ++ codes "\n")

-- the row of a place that no other row shows, where it was executed
unfoldable pub bare_row : Figures → Linear → List ℕ
bare_row f place = if f.count == 0 then [] else figure_row f (place_text place)

-- the same in a notation, and where there are names with the place's symbol as JSON
abbrev pub bare_in : Notation → Option SymbolTable → Figures → Linear → List ℕ
bare_in Text names f place = bare_row f place
bare_in Json names f place = bare_object names f place

-- the erasable places that were executed
unfoldable pub erasable_row : Notation → Option SymbolTable → Profile → ℕ → List ℕ
erasable_row notation names profile p = bare_in notation names (profile (Place (Erasable p))) (Erasable p)

unfoldable pub erasable_rows : Notation → Option SymbolTable → Profile → List ℕ
erasable_rows notation names profile = flat_map (erasable_row notation names profile) (range_with_len 0 erasable_count)

-- the places of fixed memory that were executed and where no word stands
unfoldable pub empty_row : Notation → Option SymbolTable → Profile → Words → ℕ → ℕ → List ℕ
empty_row notation names profile words bank offset =
    if stands words bank offset then [] else bare_in notation names (profile (Place (Fixed bank offset))) (Fixed bank offset)

unfoldable pub empty_rows_of : Notation → Option SymbolTable → Profile → Words → ℕ → List ℕ
empty_rows_of notation names profile words bank = flat_map (empty_row notation names profile words bank) (range_with_len 0 bank_words)

abbrev pub empty_rows : Notation → Option SymbolTable → Profile → Words → List ℕ
empty_rows notation names profile words = flat_map (empty_rows_of notation names profile words) (range_with_len 0 selected_banks)

-- figures, and what they are of
abbrev pub figures_in : Notation → Figures → List ℕ → List ℕ
figures_in Text f name = figure_row f name
figures_in Json f name = figure_object f name

-- inputs, entries of interrupts, and words that RESUME brings from BRUPT; and all steps with all cycles
abbrev pub end_rows : Notation → Profile → Figures → List ℕ
end_rows notation profile total =
    figures_in notation (profile Input) (codes "INPUT")
    ++ (figures_in notation (profile Entry) (codes "ENTRY")
    ++ (figures_in notation (profile Waiting) (codes "BRUPT") ++ figures_in notation total (codes "TOTAL")))

-- what stands below the words: places where no word of the program stands, and what is executed at no place
unfoldable pub rest_rows : Notation → Option SymbolTable → Profile → Words → Figures → List ℕ
rest_rows notation names profile words total = erasable_rows notation names profile
    ++ (empty_rows notation names profile words ++ end_rows notation profile total)

-- the rows of a source's lines
abbrev pub source_rows : Notation → Option SymbolTable → Profile → Words → Source → List ℕ
source_rows notation names profile words source = rows (line_in notation (margin_in notation names profile)) 1 (start source.language) words
    (lines source.text)

-- a word of an image, with names or without
abbrev pub image_line : Option SymbolTable → Words → ℕ → ℕ → List ℕ
image_line None words bank offset = word_line words bank offset
image_line (Some names) words bank offset = named_line names words bank offset

-- the words of an image
abbrev pub image_row : Notation → Option SymbolTable → Profile → Words → ℕ → ℕ → List ℕ
image_row Text names profile words bank offset = figure_columns (profile (Place (Fixed bank offset))) ++ image_line names words bank offset
image_row Json names profile words bank offset = image_object names (profile (Place (Fixed bank offset))) words bank offset

unfoldable pub image_rows_of : Notation → Option SymbolTable → Profile → Words → ℕ → List ℕ
image_rows_of notation names profile words bank = flat_map (image_row notation names profile words bank) (range_with_len 0 bank_words)

abbrev pub image_rows : Notation → Option SymbolTable → Profile → Words → List ℕ
image_rows notation names profile words = flat_map (image_rows_of notation names profile words) (range_with_len 0 banks)

-- the rows of a source's lines, or the words of an image, which has no text
abbrev pub word_rows : Notation → Profile → Words → Shown → List ℕ
word_rows notation profile words (shown.Source source names) = source_rows notation names profile words source
word_rows notation profile words (shown.Image names) = image_rows notation names profile words

-- the names of places that are known
abbrev pub names_of : Shown → Option SymbolTable
names_of (shown.Source source names) = names
names_of (shown.Image names) = names

-- a profile in a notation, with all steps and cycles
abbrev pub profile_text : Notation → Profile → Figures → Words → Shown → List ℕ
profile_text notation profile total words lines = word_rows notation profile words lines
    ++ rest_rows notation (names_of lines) profile words total

-- all steps of a run
abbrev pub total_of : Scenario → ℕ → Figures
total_of scenario n = record { count = n; cycles = (run scenario n).cycles }

-- the first n steps of a run in a notation
unfoldable pub cover_text : Notation → Shown → Scenario → ℕ → List ℕ
cover_text notation lines scenario n = profile_text notation (profile_of scenario n) (total_of scenario n) scenario.rope lines
