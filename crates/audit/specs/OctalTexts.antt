-- What words a text of octal words has.
use Rattle.std.specs.Prelude.{◌≡◌, ℕ, ◌+◌, ◌-◌, ◌==◌, ◌&&◌, Bool, nat_le, nat_lt, not, List, [], ◌∷◌, length, take, drop, slice_index_or}
use Rattle.std.specs.Prelude.{Option, Some, None, Result, Ok, Err, if◌then◌else◌}
use Rattle.std.specs.List.{position_or_len}
use Rattle.rope.specs.Places.{Words, banks, bank_words, no_words, stands, with_word}
use Rattle.rope.specs.Image.{image}
use Rattle.rope.specs.declared.spelling.Version.{Version}
use Rattle.agc_text.specs.Digits.{number_of}
use Rattle.agc_text.specs.Fields.{runs, texts}
use Rattle.agc_text.specs.Lines.{lines}

-- the words so far, the bank to which the next one belongs, and how many of its words there are
pub record State : Type 0 where
  pub words : Words
  pub bank : Option ℕ
  pub count : ℕ

abbrev pub state : Words → Option ℕ → ℕ → State
state words bank count = record { words = words; bank = bank; count = count }

-- a line without its comment, which a semicolon begins
abbrev pub before_comment : List ℕ → List ℕ
before_comment line = take (position_or_len (λ byte. byte == 0o73) line) line

-- a text without a carriage return at its end
abbrev pub before_return : List ℕ → List ℕ
before_return text =
    if nat_lt 0 (length text) && slice_index_or text (length text - 1) 0 == 0o15 then take (length text - 1) text else text

-- what a line says, and its fields
abbrev pub said : List ℕ → List ℕ
said line = before_return (before_comment line)

abbrev pub fields : List ℕ → List (List ℕ)
fields line = texts (runs (said line))

-- whether a field begins with BANK=
abbrev pub names_bank : List ℕ → Bool
names_bank field =
    nat_le 5 (length field) && (slice_index_or field 0 0 == 0o102
    && (slice_index_or field 1 0 == 0o101 && (slice_index_or field 2 0 == 0o116
    && (slice_index_or field 3 0 == 0o113 && slice_index_or field 4 0 == 0o75))))

-- whether a word may be put at a place: one of the 36 banks where none stands
abbrev pub is_free : Words → ℕ → ℕ → Bool
is_free words bank offset = nat_lt bank banks && (nat_lt offset bank_words && not (stands words bank offset))

-- a number below 2 to 15
abbrev pub word_size : Option ℕ → Option ℕ
word_size None = None
word_size (Some number) = if nat_lt number 0o100000 then Some number else None

-- the word of five octal digits
abbrev pub word_of : List ℕ → Option ℕ
word_of field = if length field == 5 then word_size (number_of 8 5 field) else None

-- a word is put at the next place of the bank
abbrev pub put_word : State → Option ℕ → Option ℕ → Option State
put_word s (Some word) (Some bank) =
    if is_free s.words bank s.count then Some (state (with_word s.words bank s.count word) (Some bank) (s.count + 1)) else None
put_word s _ _ = None

abbrev pub put : State → List ℕ → Option State
put s field = put_word s (word_of field) s.bank

-- what comes of a state, where there is one
abbrev pub where_some : (State → Option State) → Option State → Option State
where_some next None = None
where_some next (Some s) = next s

-- the words of some fields are put, one after another
unfoldable pub put_all : State → List (List ℕ) → Option State
put_all s [] = Some s
put_all s (field ∷ more) = where_some (λ t. put_all t more) (put s field)

-- the bank of a number begins, of which no word was read
abbrev pub begin_bank : State → Option ℕ → Option State
begin_bank s None = None
begin_bank s (Some bank) = if is_free s.words bank 0 then Some (state s.words (Some bank) 0) else None

-- the bank of a line that names one and says no more
abbrev pub begin : State → List ℕ → List (List ℕ) → Option State
begin s field [] = begin_bank s (number_of 8 2 (drop 5 field))
begin s field (other ∷ more) = None

-- what a line does by its fields
abbrev pub take_fields : State → List (List ℕ) → Option State
take_fields s [] = Some s
take_fields s (field ∷ more) = if names_bank field then begin s field more else put_all s (field ∷ more)

-- what a line does
unfoldable pub take_line : State → List ℕ → Option State
take_line s line = take_fields s (fields line)

-- the number of a line that is not taken, or what comes of the state after it
abbrev pub or_refused : ℕ → (State → Result Words ℕ) → Option State → Result Words ℕ
or_refused n next None = Err n
or_refused n next (Some s) = next s

-- the words of some lines, before which n others stand, or the number of the first that is not taken
unfoldable pub read_lines : ℕ → State → List (List ℕ) → Result Words ℕ
read_lines n s [] = Ok s.words
read_lines n s (line ∷ more) = or_refused (n + 1) (λ t. read_lines (n + 1) t more) (take_line s line)

-- the words of a text
abbrev pub octal_words : List ℕ → Result Words ℕ
octal_words text = read_lines 0 (state no_words None 0) (lines text)

-- bytes are an image of the words of a text
abbrev pub GivesImage : Version → List ℕ → Result Words ℕ → Type 0
GivesImage version bytes (Ok words) = bytes ≡ image version words
GivesImage version bytes (Err line) = ⊥
