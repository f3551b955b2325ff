-- What a source is whose lines may stand for files: its text, and of which line of which file each of its lines is.
use Rattle.std.specs.Prelude.{◌≡◌, ◌<◌, ℕ, ◌+◌, ◌-◌, ◌==◌, ◌&&◌, not, min, nat_le, nat_lt, Bool, true, false, zero, suc}
use Rattle.std.specs.Prelude.{List, [], ◌∷◌, ◌++◌, length, take, drop, slice_get, slice_index_or, Option, None, Some, option_and_then, Result, Ok, Err}
use Rattle.std.specs.Prelude.{if◌then◌else◌}
use Rattle.std.specs.List.{list_all, list_any}
use Rattle.std.specs.Option.{option_map_or}
use Rattle.agc_text.specs.Bytes.{is_text_byte, line_feed}
use Rattle.agc_text.specs.Fields.{fields, label_of}
use Rattle.agc_text.specs.Lines.{lines}
use Rattle.agc_text.specs.Tables.{same_name}
use Rattle.included.specs.declared.place.Place.{Place}
use Rattle.included.specs.declared.refusal.Why.{Why}
use Rattle.included.specs.declared.refusal.Why.TheVariants.{Loop, Missing, Outside, TooDeep, TooLarge}
use Rattle.included.specs.declared.refusal.Refusal.{Refusal}
use Rattle.included.specs.declared.refusal.Unjoined.{Unjoined}
use Rattle.included.specs.declared.refusal.Unjoined.TheVariants as unjoined
use Rattle.included.specs.declared.texts.NoText.{NoText}
use Rattle.included.specs.declared.texts.NoText.TheVariants as no_text

-- ## Lines
-- a line without a carriage return at its end
abbrev pub before_return : List ℕ → List ℕ
before_return line =
    if nat_lt 0 (length line) && slice_index_or line (length line - 1) 0 == 0o15 then take (length line - 1) line else line

-- what follows a dollar sign that stands first, where something does
abbrev pub after_dollar : List ℕ → Option (List ℕ)
after_dollar text = if nat_lt 1 (length text) && slice_index_or text 0 0 == 0o44 then Some (drop 1 text) else None

-- the name of the file for which a line stands: a field that begins at the first byte, a dollar sign and the name
abbrev pub included_name : List ℕ → Option (List ℕ)
included_name line = option_and_then (λ field. after_dollar field.text) (label_of (fields line))

-- whether a dot stands last, after one more byte; nothing where two stand together
abbrev pub after_byte : Bool → ℕ → Option Bool
after_byte before byte = if before && byte == 0o56 then None else Some (byte == 0o56)

-- two dots stand together, the first perhaps before the text
unfoldable pub doubles_dot : Bool → List ℕ → Bool
doubles_dot before [] = false
doubles_dot before (byte ∷ rest) = option_map_or (λ next. doubles_dot next rest) (after_byte before byte) true

-- a slash stands first
abbrev pub is_rooted : List ℕ → Bool
is_rooted name = nat_lt 0 (length name) && slice_index_or name 0 0 == 0o57

-- a name of a file in the folder of the source, or below it: characters, no slash first, and nowhere two dots together
abbrev pub is_inside : List ℕ → Bool
is_inside name = list_all is_text_byte name && (not (is_rooted name) && not (doubles_dot false name))

-- ## Files
-- the texts of names, where they are there
abbrev pub Files : Type 0
Files = List ℕ → Option (List ℕ)

-- what has no text, by the most bytes that one may have
abbrev pub Exceeds : ℕ → Option (List ℕ) → Type 0
Exceeds most None = ⊥
Exceeds most (Some text) = most < length text

abbrev pub Lacks : NoText → ℕ → Option (List ℕ) → Type 0
Lacks no_text.NoMemory most text = Unit {0}
Lacks no_text.Missing most text = text ≡ None
Lacks no_text.TooLarge most text = Exceeds most text

-- ## What is joined so far
-- the names of the files, each with a line feed; of which line of which file each line is, the file by where its name begins; the text; and
-- how many bytes may still be read
pub record State : Type 0 where
  pub names : List ℕ
  pub places : List Place
  pub text : List ℕ
  pub left : ℕ

abbrev pub place_in : ℕ → ℕ → Place
place_in file line = record { file = file; line = line }

-- a refusal, and the names of the files up to it
abbrev pub Joining : Type 0
Joining = Result State (List ℕ × Refusal)

-- a result that goes on
abbrev pub and_then : {A B E : Type 0} → (A → Result B E) → Result A E → Result B E
and_then next (Ok a) = next a
and_then next (Err e) = Err e

-- a line is one more, where it has a byte with its line feed
abbrev pub with_line : State → Place → List ℕ → State
with_line s place line =
    if length line == 0 then s else record s { places = s.places ++ place ∷ []; text = s.text ++ line }

-- the line feed after a line, which the last one may lack
abbrev pub feed_after : Bool → List (List ℕ) → List ℕ
feed_after true more = line_feed ∷ []
feed_after false [] = []
feed_after false (line ∷ more) = line_feed ∷ []

-- a line feed, or none
abbrev pub feed_in : Bool → List ℕ
feed_in true = line_feed ∷ []
feed_in false = []

-- a name and a line feed
abbrev pub name_line : List ℕ → List ℕ
name_line name = name ++ line_feed ∷ []

-- ## Refusals
abbrev pub refused : {A : Type 0} → State → Place → Why → Result A (List ℕ × Refusal)
refused s place why = Err (s.names, record { place = place; why = why })

-- the text of a file that is there, where it may still be read
abbrev pub found : State → Place → Option (List ℕ) → Result (List ℕ) (List ℕ × Refusal)
found s place None = refused s place Missing
found s place (Some text) = if nat_le (length text) s.left then Ok text else refused s place TooLarge

-- a name is that of a file which is being read
abbrev pub is_open : List ℕ → List ℕ → Bool
is_open around name = list_any (λ line. same_name line name) (lines around)

-- why the file of a name is not read, whatever its text is, so many levels of files within this one being left
abbrev pub bar : ℕ → List ℕ → List ℕ → Option Why
bar levels around name =
    if not (is_inside name) then Some Outside
    else if is_open around name then Some Loop
    else if levels == 0 then Some TooDeep
    else None

abbrev pub unless_barred : State → Place → Option (List ℕ) → Option Why → Result (List ℕ) (List ℕ × Refusal)
unless_barred s place text None = found s place text
unless_barred s place text (Some why) = refused s place why

-- the text of the file of a name, or why it is not read
abbrev pub text_for : Files → ℕ → List ℕ → Place → State → List ℕ → Result (List ℕ) (List ℕ × Refusal)
text_for files levels around place s name = unless_barred s place (files name) (bar levels around name)

-- a file begins
abbrev pub begun : State → List ℕ → List ℕ → State
begun s name text = record s { names = s.names ++ name_line name; left = s.left - length text }

-- ## Lines and files
-- what a line comes to: itself, or a file
abbrev pub take_named : (Place → State → List ℕ → Joining) → Place → State → List ℕ → Option (List ℕ) → Joining
take_named include place s line None = Ok (with_line s place line)
take_named include place s line (Some name) = include place s name

abbrev pub take_line : (Place → State → List ℕ → Joining) → Place → State → List ℕ → List ℕ → Joining
take_line include place s line feed = take_named include place s (line ++ feed) (included_name line)

-- the lines of a file, before which so many others stand
unfoldable pub join_lines : (Place → State → List ℕ → Joining) → Bool → ℕ → ℕ → State → List (List ℕ) → Joining
join_lines include ended file n s [] = Ok s
join_lines include ended file n s (line ∷ more) =
    and_then (λ t. join_lines include ended file (n + 1) t more)
    (take_line include (place_in file (n + 1)) s (before_return line) (feed_after ended more))

-- a file that a line stands for, with so many levels of files within this one, and the names of the files that are being read
unfoldable pub include : Files → ℕ → List ℕ → Place → State → List ℕ → Joining
include files zero around place s name = and_then (λ text. Ok s) (text_for files zero around place s name)
include files (suc levels) around place s name =
    and_then
    (λ text. join_lines (include files levels (around ++ name_line name)) true (length s.names) 0 (begun s name text) (lines text))
    (text_for files (suc levels) around place s name)

-- how many levels of files there may be within the source
abbrev pub most_levels : ℕ
most_levels = 8

-- a line feed stands last
abbrev pub is_ended : List ℕ → Bool
is_ended text = nat_lt 0 (length text) && slice_index_or text (length text - 1) 0 == line_feed

-- a source of a name and its files, which may have so many bytes together
abbrev pub start : ℕ → List ℕ → List ℕ → State
start most name text = record { names = name_line name; places = []; text = []; left = most - length text }

unfoldable pub joined : Files → ℕ → List ℕ → List ℕ → Joining
joined files most name text =
    join_lines (include files most_levels (name_line name)) (is_ended text) 0 0 (start most name text) (lines text)

-- what is answered: what is expected, unless memory ran out
abbrev pub Tells : Joining → State → Result (Unit {0}) Unjoined → Type 0
Tells expected s (Ok x) = expected ≡ Ok s
Tells expected s (Err unjoined.NoMemory) = Unit {0}
Tells expected s (Err (unjoined.Refused refusal)) = expected ≡ Err (s.names, refusal)

-- the same of the text of a file, which then begins
abbrev pub TellsText : Result (List ℕ) (List ℕ × Refusal) → State → State → List ℕ → Result (List ℕ) Unjoined → Type 0
TellsText expected old new name (Ok text) = (expected ≡ Ok text) × (new ≡ begun old name text)
TellsText expected old new name (Err unjoined.NoMemory) = Unit {0}
TellsText expected old new name (Err (unjoined.Refused refusal)) = (expected ≡ Err (old.names, refusal)) × (new ≡ old)

-- what is joined, or the line that is refused, and the names up to it
abbrev pub Gives : Joining → State → Option Refusal → Type 0
Gives expected s None = expected ≡ Ok s
Gives expected s (Some refusal) = expected ≡ Err (s.names, refusal)

-- of which line of which file the line of a number is
abbrev pub place_at : List Place → ℕ → Option Place
place_at places line = if line == 0 then None else slice_get places (line - 1)

-- the first line of some lines
abbrev pub first_line : List (List ℕ) → List ℕ
first_line [] = []
first_line (line ∷ more) = line

-- the name that begins at a place among the names
abbrev pub name_at : List ℕ → ℕ → List ℕ
name_at names file = first_line (lines (drop (min file (length names)) names))

-- two lines stand
abbrev pub are_two : List (List ℕ) → Bool
are_two (line ∷ next ∷ more) = true
are_two _ = false

-- a file was read besides the source
abbrev pub has_files : List ℕ → Bool
has_files names = are_two (lines names)

-- ## The law
-- no line stands for a file or ends in a carriage return
abbrev pub StandAlone : List (List ℕ) → Type 0
StandAlone [] = Unit {0}
StandAlone (line ∷ more) = ((included_name line ≡ None) × (before_return line ≡ line)) × StandAlone more

-- a source is joined to its own text
pub record IsItself (files : Files) (most : ℕ) (name text : List ℕ) : Type 0 where
  pub state : State
  pub gives : joined files most name text ≡ Ok state
  pub same : state.text ≡ text
