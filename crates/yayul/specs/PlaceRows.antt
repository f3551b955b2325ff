-- The row of a place: of fixed memory the row that a listing has for its word; of erasable memory that of a line which shows the place,
-- with the word that stands there.
use Rattle.std.specs.Prelude.{ℕ, ◌+◌, ◌∷◌, ◌++◌, Bool, false, List, [], find, slice_get, codes, Option, if◌then◌else◌}
use Rattle.std.specs.List.{list_any}
use Rattle.std.specs.Option.{option_map_or}
use Rattle.agc_text.specs.Lines.{lines}
use Rattle.rope.specs.Places.{Words}
use Rattle.space.specs.Places.{same_place}
use Rattle.space.specs.declared.place.Linear.{Linear}
use Rattle.space.specs.declared.place.Linear.TheVariants as linear
use Rattle.words.specs.Numerals.{octal_text}
use Rattle.yayul.specs.Layout.{Layout, start, statement_on, line_effect}
use Rattle.yayul.specs.Listing.{Shown, shown, place_text, front_with, row_front, further_row}
use Rattle.yayul.specs.Program.{Source}
use Rattle.yayul.specs.declared.language.Language.TheVariants.{Standard}

-- a line as a listing has it: its number, its text, and what it shows beside them
pub record ListedLine : Type 0 where
  pub number : ℕ
  pub text : List ℕ
  pub shown : Shown

-- some lines, the first of them with a number and what stands before it
abbrev pub listed_lines : ℕ → Layout → List (List ℕ) → List ListedLine
listed_lines line s [] = []
listed_lines line s (text ∷ texts) =
    record { number = line; text = text; shown = shown s.location (statement_on s text) }
    ∷ listed_lines (line + 1) (line_effect line s text).after texts

-- a word stands at a place
abbrev pub stands_at : Linear → ℕ × ℕ → Bool
stands_at place word = same_place place (linear.Fixed word.0 word.1)

-- a line shows a place: an erasable one where it shows that beside its number, one of fixed memory where one of its words stands there
abbrev pub shows : Linear → Shown → Bool
shows (linear.Erasable p) shown = option_map_or (same_place (linear.Erasable p)) shown.place false
shows (linear.Fixed bank offset) shown = list_any (stands_at (linear.Fixed bank offset)) shown.words

-- no source, as an image has none: no line shows a place
abbrev pub no_source : Source
no_source = record { language = Standard; text = [] }

-- the first line of a source that shows a place
abbrev pub line_of : Source → Linear → Option ListedLine
line_of source place = find (λ l. shows place l.shown) (listed_lines 1 (start source.language) (lines source.text))

-- the row of a place on a line that shows it. The text of the line stands on the row of its first word. An erasable place has the word that
-- stands there in the columns of a word.
abbrev pub place_row : Words → ℕ → Linear → ListedLine → List ℕ
place_row words word (linear.Erasable p) l =
    front_with l.number (place_text (linear.Erasable p) ++ codes " " ++ octal_text 5 word) l.text ++ l.text ++ codes "\n"
place_row words word (linear.Fixed bank offset) l =
    if option_map_or (stands_at (linear.Fixed bank offset)) (slice_get l.shown.words 0) false then row_front l.number words l.shown l.text
    ++ l.text ++ codes "\n"
    else further_row l.number words (bank, offset)

-- the row of a place after some bytes, where a line of a source shows the place
abbrev pub row_after : List ℕ → Source → Words → ℕ → Linear → List ℕ
row_after front source words word place = option_map_or (λ l. front ++ place_row words word place l) (line_of source place) []
