-- The rows of a listing as JSON: an object a line, with members more of each row.
use Rattle.std.specs.Prelude.{ℕ, List, ◌++◌, codes, decimal, drop, flat_map, slice_get, Option, None, Some}
use Rattle.std.specs.Option.{option_map_or}
use Rattle.json_text.specs.Strings.{string_or_null}
use Rattle.json_text.specs.declared.notation.Notation.{Notation}
use Rattle.json_text.specs.declared.notation.Notation.TheVariants.{Text, Json}
use Rattle.rope.specs.Places.{Words, word_at}
use Rattle.space.specs.declared.place.Linear.{Linear}
use Rattle.space.specs.declared.place.Linear.TheVariants as linear
use Rattle.words.specs.Numerals.{octal_text}
use Rattle.yayul.specs.Listing.{LineText, Margin, Shown, line_rows, place_text}

-- a place, or that there is none
abbrev pub place_or_null : Option Linear → List ℕ
place_or_null None = codes "null"
place_or_null (Some place) = codes "\"" ++ (place_text place ++ codes "\"")

-- the members of a place without a word
unfoldable pub place_members : Option Linear → List ℕ
place_members place = codes ",\"place\":" ++ (place_or_null place ++ codes ",\"word\":null")

-- those of a place of fixed memory and of the word that stands there
unfoldable pub word_members : Words → ℕ → ℕ → List ℕ
word_members words bank offset =
    codes ",\"place\":\"" ++ (place_text (linear.Fixed bank offset)
    ++ (codes "\",\"word\":\"" ++ (octal_text 5 (word_at words bank offset) ++ codes "\"")))

-- those of what a line shows: of its first word, else of a place, if any
abbrev pub shown_members : Words → Shown → List ℕ
shown_members words shown = option_map_or (λ p. word_members words p.0 p.1) (slice_get shown.words 0) (place_members shown.place)

-- the object of a row: that it is a line's, its number, what it shows, members more, and the line's text, which is null on the row of a
-- further word
unfoldable pub row_front : ℕ → List ℕ → List ℕ
row_front number members = codes "{\"kind\":\"line\",\"line\":" ++ (decimal number ++ members)

unfoldable pub row_end : Option (List ℕ) → List ℕ
row_end text = codes ",\"text\":" ++ (string_or_null text ++ codes "}\n")

abbrev pub row_object : ℕ → List ℕ → List ℕ → Option (List ℕ) → List ℕ
row_object number members more text = row_front number members ++ (more ++ row_end text)

-- the objects of a line's rows, whose margins are members
unfoldable pub line_objects : Margin → LineText
line_objects margin number words text shown =
    row_object number (shown_members words shown) (margin (slice_get shown.words 0)) (Some text)
    ++ flat_map (λ p. row_object number (word_members words p.0 p.1) (margin (Some p)) None) (drop 1 shown.words)

-- what is written of a line in a notation
abbrev pub line_in : Notation → Margin → LineText
line_in Text margin = line_rows margin
line_in Json margin = line_objects margin
