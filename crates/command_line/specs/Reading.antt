-- What the words of a subcommand ask for, by its rows.
use Rattle.std.specs.Prelude.{ℕ, ◌==◌, ◌-◌, ◌&&◌, Bool, true, false, not, List, [], ◌∷◌, ◌++◌, length, take, drop, map, nat_lt}
use Rattle.std.specs.Prelude.{Option, Some, None, is_some, Result, Ok, Err, if◌then◌else◌, slice_index, codes}
use Rattle.std.specs.Borrow.{Bor}
use Rattle.std.specs.List.{list_all}
use Rattle.std.specs.Option.{option_map, option_map_or}
use Rattle.std.specs.Str.{bytes_eq}
use Rattle.command_line.specs.Forms.{option_in, letters_in, is_number}
use Rattle.command_line.specs.Values.{takes_value, takes_many, takes_number, word_count, accepts}
use Rattle.command_line.specs.Rules.{is_given, first_conflict, is_missing}
use Rattle.command_line.specs.declared.row.Row.{Row}
use Rattle.command_line.specs.declared.reader.Given.{Given}
use Rattle.command_line.specs.declared.reader.Reader.{Reader}
use Rattle.command_line.specs.declared.reader.Refusal.{Refusal}
use Rattle.command_line.specs.declared.reader.Refusal.TheVariants.{Help, UnknownOption, UnknownLetter, Unexpected, UnneededValue}
use Rattle.command_line.specs.declared.reader.Refusal.TheVariants.{NoValue, TooFewValues, Repeated, WrongValue, Conflict, Missing}

-- what was read so far
pub record Reading : Type 0 where
  -- the values, each with the row of its argument; an option without a value has an empty one
  pub given : List (Row × List ℕ)
  -- how many of them are tried
  pub tried : ℕ
  -- the argument whose values are not tried yet
  pub open_row : Option Row
  -- the rows among which the next argument is that is told by its place
  pub places : List Row
  -- whether `--` was read
  pub is_after : Bool

-- what comes of it: more was read, or it is refused
abbrev pub Read : Type 0
Read = Result Reading Refusal

infixl 10 ◌>>=◌
abbrev pub ◌>>=◌ : Read → (Reading → Read) → Read
Ok r >>= f = f r
Err refusal >>= f = Err refusal

-- the first row that has no option, and the rows after it
abbrev pub next_placed : List Row → Option (Row × List Row)
next_placed [] = None
next_placed (row ∷ rows) = if is_some row.long then next_placed rows else Some (row, rows)

-- the row of an option
abbrev pub is_named : List ℕ → Option (Bor (List ℕ)) → Bool
is_named name long = option_map_or (λ text. bytes_eq text.now name) long false

abbrev pub option_row : List Row → List ℕ → Option Row
option_row [] name = None
option_row (row ∷ rows) name = if is_named name row.long then Some row else option_row rows name

-- why the values of an argument are refused, where some were given before
unfoldable pub refusal_of : Row → List (Row × List ℕ) → List (Row × List ℕ) → Option Refusal
refusal_of row before values =
    if length values == 0 then Some NoValue
    else (if nat_lt (length values) (word_count row.value) then Some TooFewValues
    else (if not (takes_many row.value) && is_given before row.name.now then Some Repeated
    else (if list_all (λ it. accepts row.value it.1) values then None else Some WrongValue)))

-- the values of the argument that is open are tried
abbrev pub tried_all : Reading → Reading
tried_all r = record r { tried = length r.given; open_row = None }

abbrev pub settled_by : Option Refusal → Reading → Read
settled_by None r = Ok (tried_all r)
settled_by (Some refusal) r = Err refusal

abbrev pub settled : Option Row → Reading → Read
settled None r = Ok r
settled (Some row) r = settled_by (refusal_of row (take r.tried r.given) (drop r.tried r.given)) r

unfoldable pub settle : Reading → Read
settle r = settled r.open_row r

-- those of another argument begin
unfoldable pub begin : Row → Reading → Read
begin row r = settle r >>= (λ s. Ok (record s { open_row = Some row }))

-- a value of an argument
abbrev pub give : Row → List ℕ → Reading → Reading
give row text r = record r { given = r.given ++ (row, text) ∷ [] }

-- an option that stands in one word with its value, or has none
unfoldable pub take_whole : Row → List ℕ → Reading → Read
take_whole row text r = begin row r >>= (λ s. settle (give row text s))

-- an argument that is told by its place
abbrev pub is_open : Row → Option Row → Bool
is_open row None = false
is_open row (Some it) = bytes_eq it.name.now row.name.now

abbrev pub fill : Row → List Row → List ℕ → Reading → Reading
fill row rest text r = record (give row text r) { places = if takes_many row.value then r.places else rest }

abbrev pub placed : Option (Row × List Row) → List ℕ → Reading → Read
placed None text r = Err Unexpected
placed (Some it) text r =
    (if is_open it.0 r.open_row then Ok r else begin it.0 r) >>= (λ s. Ok (fill it.0 it.1 text s))

unfoldable pub take_placed : List ℕ → Reading → Read
take_placed text r = placed (next_placed r.places) text r

-- a word that is no option: a value of the option that is open, while it has not all, or an argument told by its place
abbrev pub awaits : Row → Reading → Bool
awaits row r = is_some row.long && nat_lt (length r.given - r.tried) (word_count row.value)

abbrev pub plain : Option Row → List ℕ → Reading → Read
plain None text r = take_placed text r
plain (Some row) text r = if awaits row r then Ok (give row text r) else take_placed text r

unfoldable pub take_plain : List ℕ → Reading → Read
take_plain text r = plain r.open_row text r

-- help is asked for, once what stands before it is tried
unfoldable pub take_help : Reading → Read
take_help r = settle r >>= (λ s. Err Help)

-- an option: with a value in its word, or without
abbrev pub option_met : Row → Option (List ℕ) → Reading → Read
option_met row None r = if takes_value row.value then begin row r else take_whole row [] r
option_met row (Some text) r = if takes_value row.value then take_whole row text r else Err UnneededValue

abbrev pub help_met : Option (List ℕ) → Reading → Read
help_met None r = take_help r
help_met (Some text) r = Err UnneededValue

abbrev pub met : Option Row → List ℕ → Option (List ℕ) → Reading → Read
met (Some row) name value r = option_met row value r
met None name value r = if bytes_eq name (codes "help") then help_met value r else Err UnknownOption

unfoldable pub take_option : List Row → List ℕ → Option (List ℕ) → Reading → Read
take_option rows name value r = met (option_row rows name) name value r

-- letters behind a hyphen, of which only a first `h` means something
unfoldable pub take_letters : List ℕ → Reading → Read
take_letters letters r = if slice_index letters 0 == 104 then take_help r else Err UnknownLetter

-- the next argument that is told by its place is a number
abbrev pub awaits_number : List Row → Bool
awaits_number places = option_map_or (λ it. takes_number it.0.value) (next_placed places) false

abbrev pub no_option : Option (List ℕ) → List ℕ → Reading → Read
no_option None word r = take_plain word r
no_option (Some letters) word r =
    if awaits_number r.places && is_number letters then take_plain word r else take_letters letters r

abbrev pub before_dashes : List Row → Option (List ℕ × Option (List ℕ)) → List ℕ → Reading → Read
before_dashes rows None word r = no_option (letters_in word) word r
before_dashes rows (Some it) word r = take_option rows it.0 it.1 r

-- one word
unfoldable pub take_word : List Row → List ℕ → Reading → Read
take_word rows word r =
    if r.is_after then take_placed word r
    else (if bytes_eq word (codes "--") then Ok (record r { is_after = true })
    else before_dashes rows (option_in word) word r)

-- the end of the words
abbrev pub agrees : List Row → Reading → Read
agrees rows r =
    if is_some (first_conflict r.given) then Err Conflict else (if is_missing rows r.given then Err Missing else Ok r)

unfoldable pub finish : List Row → Reading → Read
finish rows r = settle r >>= agrees rows

-- some words
abbrev pub read_on : List Row → List (List ℕ) → Reading → Read
read_on rows [] r = finish rows r
read_on rows (word ∷ words) r = take_word rows word r >>= (λ s. read_on rows words s)

-- before the first word
abbrev pub at_start : List Row → Reading
at_start rows = record { given = []; tried = 0; open_row = None; places = rows; is_after = false }

-- all words
abbrev pub reading : List Row → List (List ℕ) → Read
reading rows words = read_on rows words (at_start rows)

-- the values without where they lie in memory
abbrev pub pair_of : Given → Row × List ℕ
pair_of it = (it.row.now, it.value.now)

abbrev pub given_of : List Given → List (Row × List ℕ)
given_of given = map pair_of given

abbrev pub reading_of : Reader → Reading
reading_of reader = record {
  given = given_of reader.given.items;
  tried = reader.tried;
  open_row = option_map (λ row. row.now) reader.open_row;
  places = reader.places.now;
  is_after = reader.is_after;
}
