-- The listing of a program: a row for each line of its source, and its symbols.
use Rattle.std.specs.Prelude.{ℕ, ◌+◌, ◌-◌, ◌/◌, ◌==◌, nat_lt, List, [], ◌∷◌, ◌++◌, length, flat_map, replicate, drop, slice_get, codes}
use Rattle.std.specs.Prelude.{decimal, Option, None, Some, if◌then◌else◌}
use Rattle.std.specs.Option.{option_map_or}
use Rattle.agc_text.specs.Lines.{lines}
use Rattle.rope.specs.Places.{Words, word_at}
use Rattle.space.specs.Places.{window}
use Rattle.space.specs.declared.place.Linear.{Linear}
use Rattle.space.specs.declared.place.Linear.TheVariants as linear
use Rattle.symbols.specs.Values.{value_text}
use Rattle.words.specs.Numerals.{octal_text}
use Rattle.yayul.specs.Layout.{Layout, start, width, is_missing, statement_on, line_effect}
use Rattle.yayul.specs.Program.{Program}
use Rattle.yayul.specs.Language.{Erase, Gives, Label, Location, Nothing, Operation, Statement, Value}

-- what a line shows beside its number and its text: a place without a word, or the banks and offsets of its words
pub record Shown : Type 0 where
  pub place : Option Linear
  pub words : List (ℕ × ℕ)

abbrev pub nothing : Shown
nothing = record { place = None; words = [] }

-- the place at a location, unless that stands past an end
abbrev pub place_here : Location → Option Linear
place_here (Location.Erasable n) = if nat_lt n 0o4000 then Some (linear.Erasable n) else None
place_here (Location.Fixed bank n) = if nat_lt n 0o2000 then Some (linear.Fixed bank n) else None

-- a place that a bank has
abbrev pub place_in : ℕ → ℕ → List (ℕ × ℕ)
place_in bank n = if nat_lt n 0o2000 then (bank, n) ∷ [] else []

-- the places of one or two words from a location on
abbrev pub words_from : ℕ → Location → List (ℕ × ℕ)
words_from count (Location.Erasable n) = []
words_from count (Location.Fixed bank n) = place_in bank n ++ (if nat_lt 1 count then place_in bank (n + 1) else [])

-- a line shows the place of its words, of what ERASE passes, or of a label alone
abbrev pub shown_by : Location → Label → Operation → Shown
shown_by here label Nothing = if is_missing label then nothing else record { place = place_here here; words = [] }
shown_by here label (Erase count) = record { place = place_here here; words = [] }
shown_by here label (Gives (Some content)) = record { place = None; words = words_from (width content) here }
shown_by here label _ = nothing

-- what a statement shows, which stands at a location
abbrev pub shown : Location → Statement → Shown
shown here said = shown_by here said.label said.operation

-- so many blanks
abbrev pub blanks : ℕ → List ℕ
blanks n = replicate n 0o40

-- the bank of a place, that of an erasable one after an E
abbrev pub bank_text : Linear → List ℕ
bank_text (linear.Erasable n) = codes "E" ++ octal_text 1 (n / 0o400)
bank_text (linear.Fixed bank offset) = octal_text 2 bank

-- a place: its bank, a comma, and the address at which a program reaches it
unfoldable pub place_text : Linear → List ℕ
place_text place = bank_text place ++ codes "," ++ octal_text 4 (window place)

-- the number of a line in decimal, right in 5 places, and a blank
unfoldable pub number_column : ℕ → List ℕ
number_column number = (blanks (5 - length (decimal number)) ++ decimal number) ++ codes " "

-- a place of fixed memory, and the word that stands there
unfoldable pub word_columns : Words → ℕ → ℕ → List ℕ
word_columns words bank offset = place_text (linear.Fixed bank offset) ++ codes " " ++ octal_text 5 (word_at words bank offset)

-- the columns of the place, 7 bytes, and of the first word, 5 bytes, with a blank between them
abbrev pub columns : Words → Shown → List ℕ
columns words shown =
    option_map_or (λ p. word_columns words p.0 p.1) (slice_get shown.words 0)
    (option_map_or (λ place. place_text place ++ blanks 6) shown.place (blanks 13))

-- what stands on a row before the text of its line: its number, what its columns have, and blanks where there is a text
abbrev pub front_with : ℕ → List ℕ → List ℕ → List ℕ
front_with number columns text = number_column number ++ columns ++ (if length text == 0 then [] else codes "  ")

-- the same by what the line shows
abbrev pub row_front : ℕ → Words → Shown → List ℕ → List ℕ
row_front number words shown text = front_with number (columns words shown) text

-- the row of a further word, which has the number of its line and no text
abbrev pub further_row : ℕ → Words → ℕ × ℕ → List ℕ
further_row number words place = number_column number ++ word_columns words place.0 place.1 ++ codes "\n"

-- what stands before a row, by the bank and the offset of the word that it shows
abbrev pub Margin : Type 0
Margin = Option (ℕ × ℕ) → List ℕ

-- nothing
abbrev pub no_margin : Margin
no_margin word = []

-- the rows of a line, each after its margin
unfoldable pub line_rows : Margin → ℕ → Words → List ℕ → Shown → List ℕ
line_rows margin number words text shown =
    (margin (slice_get shown.words 0) ++ (row_front number words shown text ++ text ++ codes "\n"))
    ++ flat_map (λ p. margin (Some p) ++ further_row number words p) (drop 1 shown.words)

-- what is written of a line, by its number, the words, its text and what it shows
abbrev pub LineText : Type 0
LineText = ℕ → Words → List ℕ → Shown → List ℕ

-- the rows of some lines, the first of them with a number and what stands before it
abbrev pub rows : LineText → ℕ → Layout → Words → List (List ℕ) → List ℕ
rows of_line line s words [] = []
rows of_line line s words (text ∷ texts) =
    of_line line words text (shown s.location (statement_on s text)) ++ rows of_line (line + 1) (line_effect line s text).after words texts

-- the row of a symbol, its name left in 8 places
unfoldable pub symbol_row : List ℕ × Value → List ℕ
symbol_row symbol = (symbol.0 ++ blanks (8 - length symbol.0)) ++ codes " " ++ value_text symbol.1 ++ codes "\n"

-- the row before the symbols, which tells how many there are
unfoldable pub symbols_head : List (List ℕ × Value) → List ℕ
symbols_head symbols = codes "SYMBOLS " ++ decimal (length symbols) ++ codes "\n"

-- the listing of a program: its lines, and its symbols in order of definition
unfoldable pub listing : Program → List ℕ
listing p = rows (line_rows no_margin) 1 (start p.source.language) p.rope (lines p.source.text)
    ++ (symbols_head p.symbols ++ flat_map symbol_row p.symbols)
