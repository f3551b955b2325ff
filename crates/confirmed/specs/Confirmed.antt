-- What a rope says of each wording that is assumed: at how many places of lines that stand by it the words are the rope's.
use Rattle.std.specs.Prelude.{ℕ, ◌+◌, ◌==◌, ◌&&◌, not, Bool, true, false, List, [], ◌∷◌, ◌++◌, length, drop, fold, get_or, replicate}
use Rattle.std.specs.Prelude.{set, slice_get, codes, decimal, Option, None, Some, if◌then◌else◌}
use Rattle.std.specs.List.{range_with_len, flat_map}
use Rattle.std.specs.Option.{option_map_or}
use Rattle.agc_text.specs.Lines.{lines}
use Rattle.agc_text.specs.Tables.{same_name}
use Rattle.rope.specs.Places.{Words, fixed_places, place_number}
use Rattle.yayul.specs.Program.{Source}
use Rattle.audit.specs.BankFacts.{count_before}
use Rattle.certain.specs.Comparison.{differs}
use Rattle.certain.specs.Places.{held_places}
use Rattle.yayul.specs.PlaceMargin.{is_second, place_before, placed_rows}
use Rattle.assumed.specs.declared.wording.Wording.{Wording}
use Rattle.assumed.specs.Sources.{wording_on}
use Rattle.assumed.specs.Wordings.{wording_name}
use Rattle.confirmed.specs.declared.places.MarkedLine.{MarkedLine}

-- ## Lines
-- the wording by which the first of some lines stands, if any
abbrev pub first_wording : List Wording → List (List ℕ) → Option Wording
first_wording wordings [] = None
first_wording wordings (text ∷ texts) = wording_on wordings text

-- ## Places
-- for each place by its number the wording by which its word stands
abbrev pub AssumedWords : Type 0
AssumedWords = List (Option Wording)

abbrev pub none_assumed : AssumedWords
none_assumed = replicate held_places None

-- what is known once some rows are passed: the line of the last one, the lines of the source that are left, and the wordings of words
pub record Walk : Type 0 where
  pub line : MarkedLine
  pub left : List (List ℕ)
  pub held : AssumedWords

-- before the first row
abbrev pub start_with : List (List ℕ) → AssumedWords → Walk
start_with texts held = record { line = record { number = 0; wording = None }; left = texts; held = held }

-- the line after another, the first of those that are left
abbrev pub line_on : List Wording → MarkedLine → List (List ℕ) → MarkedLine
line_on wordings line left = record { number = line.number + 1; wording = first_wording wordings left }

-- the word at a place stands by a wording, or by none
abbrev pub with_wording : AssumedWords → Option (ℕ × ℕ) → Option Wording → AssumedWords
with_wording held place wording = option_map_or (λ p. set held (place_number p.0 p.1) wording) place held

abbrev pub with_line : AssumedWords → Option (ℕ × ℕ) → MarkedLine → List (List ℕ) → Walk
with_line held place line left = record { line = line; left = left; held = with_wording held place line.wording }

-- one row more: the row of a second word is of the same line
unfoldable pub row_passed : List Wording → Walk → List ℕ → Walk
row_passed wordings walk row =
    if is_second walk.line.number row then with_line walk.held (place_before row) walk.line walk.left
    else with_line walk.held (place_before row) (line_on wordings walk.line walk.left) (drop 1 walk.left)

abbrev pub rows_passed : List Wording → Walk → List (List ℕ) → Walk
rows_passed wordings walk rows = fold (row_passed wordings) walk rows

-- the wordings of the words of a source, given as it is and under assumptions, that stand in a fixed memory
unfoldable pub assumed_words : List Wording → List ℕ → Source → Words → AssumedWords
assumed_words wordings text source words =
    (rows_passed wordings (start_with (lines text) none_assumed) (placed_rows source words)).held

-- ## Counts
-- the place of a number stands by a wording, and the words there differ, or do not
abbrev pub is_counted : AssumedWords → Words → Words → Wording → Bool → ℕ → Bool
is_counted held old new wording wrong place =
    option_map_or (λ w. same_name (wording_name w) (wording_name wording)) (get_or held place None) false
    && (if wrong then differs old new place else not (differs old new place))

abbrev pub count_of : AssumedWords → Words → Words → Wording → Bool → ℕ
count_of held old new wording wrong = count_before (is_counted held old new wording wrong) fixed_places

-- ## Text
abbrev pub wording_text : Wording → ℕ → ℕ → List ℕ
wording_text wording right wrong =
    codes "ASSUMED " ++ wording_name wording ++ codes " CONFIRMED " ++ decimal right ++ codes " DENIED " ++ decimal wrong ++ codes "\n"

-- the line of one of some wordings
abbrev pub line_of : AssumedWords → Words → Words → Option Wording → List ℕ
line_of held old new None = []
line_of held old new (Some wording) =
    wording_text wording (count_of held old new wording false) (count_of held old new wording true)

unfoldable pub numbered_line : List Wording → AssumedWords → Words → Words → ℕ → List ℕ
numbered_line wordings held old new n = line_of held old new (slice_get wordings n)

-- those of all
unfoldable pub assumed_lines : List Wording → AssumedWords → Words → Words → List ℕ
assumed_lines wordings held old new = flat_map (numbered_line wordings held old new) (range_with_len 0 (length wordings))
