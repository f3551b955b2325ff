-- Layout: what each line does where a location, symbols and words stand before it, and its faults of the kind layout.
use Rattle.std.specs.Prelude.{ℕ, ◌+◌, ◌-◌, ◌/◌, ◌==◌, ◌&&◌, ◌||◌, not, Bool, true, false, nat_lt, nat_le, List, [], ◌∷◌, ◌++◌, length, map}
use Rattle.std.specs.Prelude.{filter_map, fold, max, Option, None, Some, is_some, Result, Ok, Err, ok_or, if◌then◌else◌}
use Rattle.std.specs.List.{list_any, list_all}
use Rattle.std.specs.Option.{option_map, option_map_or}
use Rattle.std.specs.Result.{result_err, result_unwrap_or}
use Rattle.agc_text.specs.Bytes.{line_length, is_text_byte}
use Rattle.agc_text.specs.Tables.{value_in}
use Rattle.space.specs.declared.place.Linear.{Linear}
use Rattle.space.specs.declared.place.Linear.TheVariants as linear
use Rattle.symbols.specs.Values.{place_of}
use Rattle.yayul.specs.Operators.{is_bank, stays_extended}
use Rattle.yayul.specs.Forms.{greatest_number}
use Rattle.yayul.specs.Flight.{is_flight, most_lines, measured, statement_in}
use Rattle.yayul.specs.Language.{Addressed, BadBank, BadLabel, BadOperand, Bank, BankFull, BankRange, BankWord, CodeInErasable}
use Rattle.yayul.specs.Language.{Complemented, Constant, Constants, Content, Ebank, Equals, Erasable, Erase, FarAddress, FarComplement}
use Rattle.yayul.specs.Language.{Fault, FaultKind, Fixed, Gives, Is, Label, Language, Location, LongLine, Malformed, Minus, Missing, Named}
use Rattle.yayul.specs.Language.{NeedsExtend, NoForm, NoMemory, NotAscii, NotExtracode, Nothing, Num, Numeral, Operand, Operation}
use Rattle.yayul.specs.Language.{OutOfRange, PlaceTaken, Plain, Plus, Setloc, Shift, Statement, Term, TooLarge, TooManyLines, TwiceDefined}
use Rattle.yayul.specs.Language.{Undefined, Unknown, UnknownOperator, UsedTooEarly, Value, WrongKindOfAddress}

-- ## Faults
-- the number that a kind of fault is told by
abbrev pub fault_number : FaultKind → ℕ
fault_number NoMemory = 2
fault_number NotAscii = 10
fault_number LongLine = 11
fault_number TooManyLines = 12
fault_number BadLabel = 13
fault_number TwiceDefined = 14
fault_number UnknownOperator = 15
fault_number BadOperand = 16
fault_number Undefined = 17
fault_number UsedTooEarly = 18
fault_number BadBank = 19
fault_number BankFull = 20
fault_number PlaceTaken = 21
fault_number CodeInErasable = 22
fault_number NeedsExtend = 23
fault_number NotExtracode = 24
fault_number WrongKindOfAddress = 25
fault_number OutOfRange = 26

-- a fault, where its condition holds
abbrev pub fault_if : Bool → FaultKind → Option FaultKind
fault_if condition kind = if condition then Some kind else None

-- those faults whose conditions hold
abbrev pub standing : List (Option FaultKind) → List FaultKind
standing conditions = filter_map (λ c. c) conditions

-- faults of these kinds on a line
abbrev pub on_line : ℕ → List FaultKind → List Fault
on_line line kinds = map (λ kind. record { line = line; number = fault_number kind }) kinds

-- what follows from a value, where one stands
abbrev pub and_then : {A B : Type 0} → (A → Result B FaultKind) → Result A FaultKind → Result B FaultKind
and_then f (Ok x) = f x
and_then f (Err kind) = Err kind

-- ## Values and places
-- n so many on or back, where that is from 0 to a bound
abbrev pub moved : ℕ → ℕ → Shift → Result ℕ FaultKind
moved most n (Plus None) = Err OutOfRange
moved most n (Plus (Some count)) = if nat_le (n + count) most then Ok (n + count) else Err OutOfRange
moved most n (Minus None) = Err OutOfRange
moved most n (Minus (Some count)) = if nat_le count n && nat_le (n - count) most then Ok (n - count) else Err OutOfRange

-- a value so many on or back, which keeps its kind, and its bank
abbrev pub moved_value : Shift → Value → Result Value FaultKind
moved_value shift (Num n) = and_then (λ m. Ok (Num m)) (moved greatest_number n shift)
moved_value shift (Erasable n) = and_then (λ m. Ok (Erasable m)) (moved 0o3777 n shift)
moved_value shift (Fixed bank n) = and_then (λ m. Ok (Fixed bank m)) (moved 0o1777 n shift)

-- what a term stands for at a location; a symbol is read in a table, and where it is missing the fault is told
abbrev pub term_value : FaultKind → List (List ℕ × Value) → Value → Term → Result Value FaultKind
term_value missing table here (Term.Number number) = and_then (λ n. Ok (Num n)) (ok_or number OutOfRange)
term_value missing table here (Term.Named name) = ok_or (value_in table name) missing
term_value missing table here (Term.Place bank offset) = Ok (Fixed bank offset)
term_value missing table here Term.Here = Ok here

-- the value of an operand
abbrev pub value_of : FaultKind → List (List ℕ × Value) → Value → Operand → Result Value FaultKind
value_of missing table here operand = and_then (moved_value operand.shift) (term_value missing table here operand.term)

-- a place as a location
abbrev pub location_of : Linear → Location
location_of (linear.Erasable n) = Location.Erasable n
location_of (linear.Fixed bank n) = Location.Fixed bank n

-- the location of a value, where it has a place
abbrev pub location_at : Value → Result Location FaultKind
location_at value = ok_or (option_map location_of (place_of value)) OutOfRange

-- the number of an erasable location
abbrev pub erasable_number : Location → Result ℕ FaultKind
erasable_number (Location.Erasable n) = Ok n
erasable_number (Location.Fixed bank n) = Err WrongKindOfAddress

-- the erasable place that a value names
abbrev pub erasable_place : Value → Result ℕ FaultKind
erasable_place value = and_then erasable_number (location_at value)

-- the location as a value
abbrev pub value_here : Location → Value
value_here (Location.Erasable n) = Erasable n
value_here (Location.Fixed bank n) = Fixed bank n

-- ## Locations
-- so many words from the location on reach past its end
abbrev pub lacks_room : ℕ → Location → Bool
lacks_room count (Location.Erasable n) = nat_lt 0o4000 (n + count)
lacks_room count (Location.Fixed bank n) = nat_lt 0o2000 (n + count)

-- the location after so many words
abbrev pub after_words : ℕ → Location → Location
after_words count (Location.Erasable n) = Location.Erasable (n + count)
after_words count (Location.Fixed bank n) = Location.Fixed bank (n + count)

abbrev pub is_erasable : Location → Bool
is_erasable (Location.Erasable n) = true
is_erasable (Location.Fixed bank n) = false

-- the bank and the offset of a word at a location, where one may stand
abbrev pub word_place : Location → Option (ℕ × ℕ)
word_place (Location.Erasable n) = None
word_place (Location.Fixed bank n) = if nat_lt n 0o2000 then Some (bank, n) else None

-- ## What the lines before give
-- the words that a line asks for, from a place on: what they are made of, whether extracode is in force, and the erasable bank of a far
-- address
pub record Request : Type 0 where
  pub line : ℕ
  pub bank : ℕ
  pub offset : ℕ
  pub content : Content
  pub extracode : Bool
  pub eb : ℕ

-- a name that waits for the value of an operand, whose symbol a later line may define
pub record Promise : Type 0 where
  pub line : ℕ
  pub name : List ℕ
  pub operand : Operand

-- what stands before a line: the language of the source, the location, and what earlier lines gave, the names that wait for a value among
-- it, with values of no account
pub record Layout : Type 0 where
  pub language : Language
  pub location : Location
  pub symbols : List (List ℕ × Value)
  pub promised : List (List ℕ × Value)
  pub promises : List Promise
  pub requests : List Request
  pub extracode : Bool
  pub eb : ℕ

-- before the first line: bank 2, offset 0, erasable bank 0
abbrev pub start : Language → Layout
start language = record {
  language = language;
  location = Location.Fixed 2 0;
  symbols = [];
  promised = [];
  promises = [];
  requests = [];
  extracode = false;
  eb = 0;
}

-- how many words a content gives
abbrev pub width : Content → ℕ
width (Constant number) = 1
width (Plain i) = 1
width (Addressed i operand) = 1
width (FarAddress operand) = 2
width (Constants pair) = 2
width (Complemented i operand) = 1
width (FarComplement operand) = 2
width (BankWord operand) = 1

-- a word of a request stands at a place
abbrev pub stands_at : ℕ → ℕ → Request → Bool
stands_at bank offset r = bank == r.bank && (nat_le r.offset offset && nat_lt offset (r.offset + width r.content))

-- a word stands at a location already
abbrev pub is_taken_at : Layout → Location → Bool
is_taken_at s here = option_map_or (λ place. list_any (stands_at place.0 place.1) s.requests) (word_place here) false

-- a word stands already where the first of so many would, or the second where there are two
abbrev pub is_taken : Layout → ℕ → Bool
is_taken s count = is_taken_at s s.location || (nat_lt 1 count && is_taken_at s (after_words 1 s.location))

-- one past the highest word that requests place in a bank, 0 where there is none
abbrev pub bank_end : List Request → ℕ → ℕ
bank_end requests bank = fold (λ end r. if bank == r.bank then max end (r.offset + width r.content) else end) 0 requests

-- the value of an operand that has its form, its symbols those of earlier lines
abbrev pub early_value : Layout → Option Operand → Result Value FaultKind
early_value s operand = and_then (value_of UsedTooEarly s.symbols (value_here s.location)) (ok_or operand BadOperand)

-- ## Labels
abbrev pub is_malformed : Label → Bool
is_malformed Malformed = true
is_malformed _ = false

abbrev pub is_missing : Label → Bool
is_missing Missing = true
is_missing _ = false

-- the label stands on an earlier line
abbrev pub is_twice : Layout → Label → Bool
is_twice s (Named name) = is_some (value_in s.symbols name) || is_some (value_in s.promised name)
is_twice s _ = false

-- the label has a value from here on
abbrev pub defined : Layout → Label → Value → Layout
defined s (Named name) value = record s { symbols = s.symbols ++ (name, value) ∷ [] }
defined s _ value = s

-- the faults of a label where one is taken
abbrev pub label_faults : Layout → Label → List (Option FaultKind)
label_faults s label = fault_if (is_malformed label) BadLabel ∷ fault_if (is_twice s label) TwiceDefined ∷ []

-- ## What a line does
-- the layout faults of a line, and what stands after it; after a line with a fault that is of no account, for no later fault is told
pub record LineEffect : Type 0 where
  pub faults : List FaultKind
  pub after : Layout

-- a line with a label alone, or without a field
abbrev pub label_alone : Layout → Label → LineEffect
label_alone s label = record {
  faults = standing (label_faults s label ++ fault_if (not (is_missing label) && lacks_room 1 s.location) BankFull ∷ []);
  after = defined s label (value_here s.location);
}

-- a line that may have a label, with a fault of its own
abbrev pub refused : Layout → Label → FaultKind → LineEffect
refused s label kind = record { faults = standing (label_faults s label ++ Some kind ∷ []); after = s }

-- the conditions on a line that takes no label and comes to something
abbrev pub bare_faults : {A : Type 0} → Label → Result A FaultKind → List (Option FaultKind)
bare_faults label result = fault_if (not (is_missing label)) BadLabel ∷ result_err result ∷ []

-- a line that moves the location to a target
abbrev pub relocated : Layout → Label → Result Location FaultKind → LineEffect
relocated s label target =
    record { faults = standing (bare_faults label target); after = record s { location = result_unwrap_or target s.location } }

-- the location past the words of a bank that the operator takes
abbrev pub bank_target : Layout → BankRange → Numeral → Result Location FaultKind
bank_target s taken NoForm = Err BadOperand
bank_target s taken TooLarge = Err BadBank
bank_target s taken (Is n) = if is_bank taken n then Ok (Location.Fixed n (bank_end s.requests n)) else Err BadBank

-- EBANK=: the erasable bank of 2CADR becomes that of the operand's place
abbrev pub ebank : Layout → Label → Option Operand → LineEffect
ebank s label operand =
    let place : Result ℕ FaultKind = and_then erasable_place (early_value s operand) in
    record {
      faults = standing (bare_faults label place);
      after = record s
          { eb = result_unwrap_or (and_then (λ n. Ok (n / 0o400)) place) s.eb };
    }

-- a line that gives its label a value, and needs a label
abbrev pub valued : Layout → Label → Result Value FaultKind → LineEffect
valued s label value = record {
  faults = standing (fault_if (is_missing label || is_malformed label) BadLabel ∷ fault_if (is_twice s label) TwiceDefined
      ∷ result_err value ∷ []);
  after = result_unwrap_or (and_then (λ v. Ok (defined s label v)) value) s;
}

-- a symbol that no earlier line defines
abbrev pub is_undefined : List (List ℕ × Value) → Term → Bool
is_undefined table (Term.Named name) = not (is_some (value_in table name))
is_undefined table _ = false

-- in the language of flight programs an operand may be a symbol of a later line
abbrev pub is_later : Layout → Operand → Bool
is_later s operand = is_flight s.language && is_undefined s.symbols operand.term

-- a name more waits
abbrev pub with_promise : ℕ → Layout → Label → Operand → Layout
with_promise line s (Named name) operand = record s {
  promised = s.promised ++ (name, Num 0) ∷ [];
  promises = s.promises ++ record { line = line; name = name; operand = operand } ∷ [];
}
with_promise line s _ operand = s

-- a line whose label waits for the value of an operand
abbrev pub promised : ℕ → Layout → Label → Operand → LineEffect
promised line s label operand = record { faults = (valued s label (Ok (Num 0))).faults; after = with_promise line s label operand }

-- EQUALS: the label has the value of the operand, or waits for it
abbrev pub equals : ℕ → Layout → Label → Option Operand → LineEffect
equals line s label None = valued s label (Err BadOperand)
equals line s label (Some operand) = if is_later s operand then promised line s label operand else valued s label
    (early_value s (Some operand))

-- the location after so many erasable words and one
abbrev pub erased_to : Location → Numeral → Result Location FaultKind
erased_to here NoForm = Err BadOperand
erased_to (Location.Erasable n) TooLarge = Err BankFull
erased_to (Location.Erasable n) (Is count) = if nat_le (n + count + 1) 0o4000 then Ok (Location.Erasable (n + count + 1)) else Err BankFull
erased_to (Location.Fixed bank n) count = Err WrongKindOfAddress

-- ERASE: passes erasable words
abbrev pub erase : Layout → Label → Numeral → LineEffect
erase s label count =
    let end : Result Location FaultKind = erased_to s.location count in
    record {
      faults = standing (label_faults s label ++ fault_if (not (is_missing label) && lacks_room 1 s.location) BankFull ∷ result_err end
          ∷ []);
      after = record (defined s label (value_here s.location)) { location = result_unwrap_or end s.location };
    }

-- extracode is in force on the next line that gives words, where it is or is not on this one: after an operator that puts it in force, or
-- one of both tables under extracode
abbrev pub extends : Content → Bool → Bool
extends (Constant number) extracode = false
extends (Plain i) extracode = i.extends
extends (Addressed i operand) extracode = stays_extended i.extracode && extracode
extends _ extracode = false

-- a layout with the words of one request more
abbrev pub asked : Layout → Request → Layout
asked s r =
    record s {
      requests = s.requests ++ r ∷ [];
      location = after_words (width r.content) s.location;
      extracode = extends r.content
          s.extracode;
    }

-- the words of a content from the location on, where they may stand
abbrev pub asked_here : ℕ → Layout → Content → Layout
asked_here line s content =
    option_map_or (λ p. asked s (record { line = line; bank = p.0; offset = p.1; content = content; extracode = s.extracode; eb = s.eb }))
    (word_place s.location) s

-- a line that gives words
abbrev pub gives : ℕ → Layout → Label → Content → LineEffect
gives line s label content = record {
  faults = standing (label_faults s label ++ fault_if (lacks_room (width content) s.location) BankFull
      ∷ fault_if (is_taken s (width content)) PlaceTaken ∷ fault_if (is_erasable s.location) CodeInErasable ∷ []);
  after = asked_here line (defined s label (value_here s.location)) content;
}

-- what a statement does on a line
abbrev pub statement_effect : ℕ → Layout → Label → Operation → LineEffect
statement_effect line s label Nothing = label_alone s label
statement_effect line s label Unknown = refused s label UnknownOperator
statement_effect line s label (Setloc operand) = relocated s label (and_then location_at (early_value s operand))
statement_effect line s label (Bank taken number) = relocated s label (bank_target s taken number)
statement_effect line s label (Erase count) = erase s label count
statement_effect line s label (Equals operand) = equals line s label operand
statement_effect line s label (Ebank operand) = ebank s label operand
statement_effect line s label (Gives None) = refused s label BadOperand
statement_effect line s label (Gives (Some content)) = gives line s label content

-- what a line says where it stands
abbrev pub statement_on : Layout → List ℕ → Statement
statement_on s text = statement_in s.language s.location text

-- what a line does
unfoldable pub line_effect : ℕ → Layout → List ℕ → LineEffect
line_effect line s text = statement_effect line s (statement_on s text).label (statement_on s text).operation

-- the faults of a line's bytes, its length and its number
abbrev pub text_faults : Language → ℕ → List ℕ → List FaultKind
text_faults language line text =
    standing (fault_if (not (list_all is_text_byte text)) NotAscii
    ∷ fault_if (nat_lt line_length (length (measured language text))) LongLine
    ∷ fault_if (line == most_lines language + 1) TooManyLines ∷ [])

-- the layout faults of a line
abbrev pub line_faults : ℕ → Layout → List ℕ → List FaultKind
line_faults line s text = text_faults s.language line text ++ (line_effect line s text).faults

-- what stands after some lines, the first of them with a number
abbrev pub layout_after : ℕ → Layout → List (List ℕ) → Layout
layout_after line s [] = s
layout_after line s (text ∷ texts) = layout_after (line + 1) (line_effect line s text).after texts

-- the layout faults of some lines
abbrev pub layout_faults : ℕ → Layout → List (List ℕ) → List Fault
layout_faults line s [] = []
layout_faults line s (text ∷ texts) =
    on_line line (line_faults line s text) ++ layout_faults (line + 1) (line_effect line s text).after texts
