-- What is told of a source of several files: each line by its file, and its number in it.
use Rattle.std.specs.Prelude.{ℕ, zero, suc, ◌+◌, ◌-◌, ◌==◌, ◌||◌, max, nat_eq, not, Bool, true, false, List, [], ◌∷◌, ◌++◌, length, take, drop}
use Rattle.std.specs.Prelude.{replicate, get_or, codes, decimal, Option, None, Some, option_and_then, if◌then◌else◌}
use Rattle.std.specs.List.{before_first, ends_with, position_or_len, slice_split}
use Rattle.std.specs.Option.{option_map}
use Rattle.agc_text.specs.Bytes.{space}
use Rattle.agc_text.specs.Digits.{number_of}
use Rattle.agc_text.specs.Lines.{lines}
use Rattle.agc_text.specs.Tables.{same_name}
use Rattle.json_text.specs.Strings.{json_string}
use Rattle.included.specs.Included.{State, name_at, place_at}
use Rattle.included.specs.declared.place.Place.{Place}
use Rattle.included.specs.declared.listings.Section.{Section}
use Rattle.included.specs.declared.listings.Section.TheVariants.{Lines, Symbols, Uses}

-- ## Names
-- how many of the first n bytes of a path stand up to the last slash among them
unfoldable pub folder_length : List ℕ → ℕ → ℕ
folder_length path zero = 0
folder_length path (suc n) = if get_or path n 0 == 0o57 then suc n else folder_length path n

-- the path of a file of a name in the folder of a source
abbrev pub path_beside : List ℕ → List ℕ → List ℕ
path_beside path name = take (folder_length path (length path)) path ++ name

-- the number of a line behind what names its file
abbrev pub numbered : List ℕ → ℕ → List ℕ
numbered name line = name ++ codes ":" ++ decimal line

-- the name of a line: that of its file, and its number in it
abbrev pub line_name : State → Place → List ℕ
line_name s place = numbered (name_at s.names place.file) place.line

-- the path of the file of a line, and of the line
abbrev pub file_path : List ℕ → State → Place → List ℕ
file_path path s place = path_beside path (name_at s.names place.file)

abbrev pub line_path : List ℕ → State → Place → List ℕ
line_path path s place = numbered (file_path path s place) place.line

-- ## Numbers of lines in a text
-- some bytes stand first in a text, and what follows them there
abbrev pub begins : List ℕ → List ℕ → Bool
begins front text = same_name (take (length front) text) front

abbrev pub after_front : List ℕ → List ℕ → Option (List ℕ)
after_front front text = if begins front text then Some (drop (length front) text) else None

-- what follows the blanks at the front
abbrev pub is_no_space : ℕ → Bool
is_no_space byte = not (byte == space)

abbrev pub after_spaces : List ℕ → List ℕ
after_spaces text = drop (position_or_len is_no_space text) text

-- the line whose number ends before a sign, or at the end, and what follows the number
abbrev pub place_before : State → ℕ → List ℕ → Option (Place × List ℕ)
place_before s sign text =
    option_map (λ place. (place, drop (position_or_len (λ byte. byte == sign) text) text))
    (option_and_then (place_at s.places) (number_of 10 15 (before_first (λ byte. byte == sign) text)))

-- the same of a row, whose number follows some bytes and blanks
abbrev pub row_after : State → List ℕ → List ℕ → Option (Place × List ℕ)
row_after s front row = option_and_then (λ text. place_before s space (after_spaces text)) (after_front front row)

-- a text right in so many places
abbrev pub right_in : ℕ → List ℕ → List ℕ
right_in width text = replicate (width - length text) space ++ text

-- ## Listings
-- a row with the name of a line for its number, which follows some bytes
abbrev pub row_with : State → List ℕ → ℕ → List ℕ → Option (Place × List ℕ) → List ℕ
row_with s front width row None = row
row_with s front width row (Some p) = front ++ right_in width (line_name s p.0) ++ p.1

abbrev pub row_text : State → List ℕ → ℕ → List ℕ → List ℕ
row_text s front width row = row_with s front width row (row_after s front row)

-- what the rows of a listing are from a line on: those of lines, of symbols, which have no number, and of uses, which are comments
abbrev pub section_from : Section → List ℕ → Section
section_from section line =
    if begins (codes "SYMBOLS ") line then Symbols
    else if begins (codes "# XREF ") line then Uses
    else section

abbrev pub row_in : State → Section → ℕ → List ℕ → List ℕ
row_in s Lines width row = row_text s [] width row
row_in s Symbols width row = row
row_in s Uses width row = row_text s (codes "# ") width row

unfoldable pub rows_from : State → ℕ → Section → List (List ℕ) → List ℕ
rows_from s width section [] = []
rows_from s width section (line ∷ more) =
    (row_in s (section_from section line) width line ++ codes "\n") ++ rows_from s width (section_from section line) more

-- how long the longest name of a line is, and at least so long
unfoldable pub longest : State → ℕ → List Place → ℕ
longest s n [] = n
longest s n (place ∷ more) = longest s (max n (length (line_name s place))) more

-- a listing, each line by its name
abbrev pub located_listing : State → List ℕ → List ℕ
located_listing s listing = rows_from s (longest s 0 s.places) Lines (lines listing)

-- the first line of a text, in which the row of a line follows some bytes
abbrev pub first_row : State → List ℕ → List (List ℕ) → List ℕ
first_row s front [] = []
first_row s front (line ∷ more) = row_text s front 0 line ++ codes "\n"

-- ## Words
-- a word, which may be the number of a line, perhaps before a comma: that is told by its path
abbrev pub word_in : List ℕ → State → List ℕ → Option (Place × List ℕ) → List ℕ
word_in path s word None = word
word_in path s word (Some p) = line_path path s p.0 ++ p.1

abbrev pub word_text : List ℕ → State → Bool → List ℕ → List ℕ
word_text path s true word = word_in path s word (place_before s 0o54 word)
word_text path s false word = word

-- whether the word behind one is the number of a line
abbrev pub tells_line : List ℕ → Bool
tells_line word = same_name word (codes "line") || ends_with nat_eq word (codes "\"line")

-- words with a blank between two
unfoldable pub words_text : List ℕ → State → Bool → List (List ℕ) → List ℕ
words_text path s told [] = []
words_text path s told (word ∷ []) = word_text path s told word
words_text path s told (word ∷ next ∷ more) =
    (word_text path s told word ++ codes " ") ++ words_text path s (tells_line word) (next ∷ more)

-- a text in which numbers of lines are words
abbrev pub located_words : List ℕ → State → List ℕ → List ℕ
located_words path s text = words_text path s false (slice_split (λ byte. byte == space) text)

-- ## Objects of JSON
-- where some bytes first stand in a text, counted from n
unfoldable pub mark_at : List ℕ → List ℕ → ℕ → Option ℕ
mark_at mark [] n = None
mark_at mark (byte ∷ rest) n = if begins mark (byte ∷ rest) then Some n else mark_at mark rest (n + 1)

-- what stands before some bytes, the line whose number follows them, up to a comma, and what follows the number
abbrev pub line_after : State → List ℕ → List ℕ → Option (List ℕ × Place × List ℕ)
line_after s mark text =
    option_and_then
    (λ n. option_map (λ p. (take n text, p.0, p.1)) (place_before s 0o54 (drop (n + length mark) text)))
    (mark_at mark text 0)

-- the member of a file, and the name of that of a line
abbrev pub file_member : List ℕ → List ℕ
file_member path = codes "\"file\":" ++ json_string path ++ codes ",\"line\":"

-- a line as members of an object
abbrev pub line_members : List ℕ → State → Place → List ℕ
line_members path s place = file_member (file_path path s place) ++ decimal place.line

-- the members of an object from that of another line on: it has its file too
abbrev pub related_in : List ℕ → State → List ℕ → Option (List ℕ × Place × List ℕ) → List ℕ
related_in path s text None = located_words path s text
related_in path s text (Some t) =
    located_words path s t.0 ++ codes "\"related\":{" ++ line_members path s t.1 ++ located_words path s t.2

abbrev pub from_related : List ℕ → State → List ℕ → List ℕ
from_related path s text = related_in path s text (line_after s (codes "\"related\":{\"line\":") text)

-- the same from that of an edit on
abbrev pub fix_in : List ℕ → State → List ℕ → Option (List ℕ × Place × List ℕ) → List ℕ
fix_in path s text None = from_related path s text
fix_in path s text (Some t) =
    located_words path s t.0 ++ codes "\"fix\":{" ++ line_members path s t.1 ++ from_related path s t.2

abbrev pub from_fix : List ℕ → State → List ℕ → List ℕ
from_fix path s text = fix_in path s text (line_after s (codes "\"fix\":{\"line\":") text)

-- an object that tells of a line of the source
abbrev pub object_in : List ℕ → State → List ℕ → Option (List ℕ × Place × List ℕ) → List ℕ
object_in path s text None = text
object_in path s text (Some t) = t.0 ++ line_members path s t.1 ++ from_fix path s t.2

abbrev pub object_text : List ℕ → State → List ℕ → List ℕ
object_text path s text = object_in path s text (line_after s (file_member path) text)

-- ## Reports
-- a line that tells what is wrong, after the path of the source and the number of a line, or as an object
abbrev pub told_in : List ℕ → State → List ℕ → Option (Place × List ℕ) → List ℕ
told_in path s text None = object_text path s text
told_in path s text (Some p) = line_path path s p.0 ++ located_words path s p.1

abbrev pub told_text : List ℕ → State → List ℕ → List ℕ
told_text path s text = told_in path s text (option_and_then (place_before s 0o72) (after_front (path ++ codes ":") text))

-- the line that is shown behind its number and a bar, and what follows the number
abbrev pub if_shown : Option (Place × List ℕ) → Option (Place × List ℕ)
if_shown None = None
if_shown (Some p) = if begins (codes " |") p.1 then Some p else None

-- a line of a report
abbrev pub report_in : List ℕ → State → List ℕ → Option (Place × List ℕ) → List ℕ
report_in path s line None = told_text path s line
report_in path s line (Some p) = right_in 5 (decimal p.0.line) ++ p.1

abbrev pub report_line : List ℕ → State → List ℕ → List ℕ
report_line path s line = report_in path s line (if_shown (row_after s [] line))

unfoldable pub report_lines : List ℕ → State → List (List ℕ) → List ℕ
report_lines path s [] = []
report_lines path s (line ∷ more) = (report_line path s line ++ codes "\n") ++ report_lines path s more

-- a report, each line by its path
abbrev pub located_report : List ℕ → State → List ℕ → List ℕ
located_report path s report = report_lines path s (lines report)
