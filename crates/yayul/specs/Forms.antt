-- From the fields of a line to what it says: names, numbers, decimal constants, operands, statements, whatever stands before the line.
use Rattle.std.specs.Prelude.{ℕ, ◌+◌, ◌-◌, ◌*◌, ◌/◌, ◌^◌, ◌==◌, ◌&&◌, ◌||◌, not, Bool, false, nat_le, List, [], ◌∷◌, length, take, drop}
use Rattle.std.specs.Prelude.{slice_get, Option, None, Some, is_some, option_map, option_and_then, if◌then◌else◌}
use Rattle.std.specs.List.{list_any, before_first}
use Rattle.std.specs.Option.{option_map_or}
use Rattle.words.specs.Numbers.{neg}
use Rattle.agc_text.specs.Digits.{digits_value, number_of}
use Rattle.agc_text.specs.Fields.{Piece, texts, fields, label_of, others_of}
use Rattle.agc_text.specs.Tables.{value_in}
use Rattle.yayul.specs.Operators.{operators}
use Rattle.yayul.specs.Language.{Addressed, Bank, Constant, Ebank, Equals, Erase, FarAddress, Gives, Is, Label, Malformed, Minus, Missing}
use Rattle.yayul.specs.Language.{Named, NoForm, Nothing, Numeral, Operand, Operation, Operator, Plain, Plus, Setloc, Shift, Statement, Term}
use Rattle.yayul.specs.Language.{TooLarge, Unknown}

-- a `+` or a `-`
abbrev pub is_sign : ℕ → Bool
is_sign byte = byte == 0o53 || byte == 0o55

-- a test of the first byte, which has to stand
abbrev pub first_is : (ℕ → Bool) → List ℕ → Bool
first_is test text = option_map_or test (slice_get text 0) false

-- a `D`, which makes a number decimal, stands last
abbrev pub is_marked_decimal : List ℕ → Bool
is_marked_decimal text = option_map_or (λ byte. byte == 0o104) (slice_get text (length text - 1)) false

-- the greatest number of a source, and the greatest magnitude of a word
abbrev pub greatest_number : ℕ
greatest_number = 0o77777

abbrev pub greatest_magnitude : ℕ
greatest_magnitude = 0o37777

-- a number, where it is at most a bound
abbrev pub at_most : ℕ → ℕ → Numeral
at_most most n = if nat_le n most then Is n else TooLarge

-- what the number of a text is, where the text has the form of one
abbrev pub numeral : ℕ → Option ℕ → Numeral
numeral most number = option_map_or (at_most most) number NoForm

-- the value of a number: digits in octal, or digits and a `D` in decimal
abbrev pub number_value : List ℕ → Option ℕ
number_value text = if is_marked_decimal text then digits_value 10 (take (length text - 1) text) else digits_value 8 text

-- a number of the source
abbrev pub number_in : List ℕ → Numeral
number_in text = numeral greatest_number (number_value text)

-- a number made into something else, where it has its form: one that is too large has no value there
abbrev pub with_form : {A : Type 0} → (Option ℕ → A) → Numeral → Option A
with_form make NoForm = None
with_form make TooLarge = Some (make None)
with_form make (Is n) = Some (make (Some n))

-- digits alone, or digits followed by `D`
abbrev pub is_digits : List ℕ → Bool
is_digits text = is_some (digits_value 10 (if is_marked_decimal text then take (length text - 1) text else text))

-- 1 to 8 characters, none of them `$`, not beginning with a sign, and not digits alone or digits followed by `D`
abbrev pub is_name : List ℕ → Bool
is_name text =
    nat_le 1 (length text) && nat_le (length text) 8 && not (list_any (λ byte. byte == 0o44) text)
    && not (first_is is_sign text) && not (is_digits text)

-- so many units' fraction times 2 ^ 14, to the nearest: half a unit is added before the division
abbrev pub scaled : ℕ → ℕ → ℕ
scaled decimals unit = (decimals * 2 ^ 15 + unit) / (2 * unit)

-- what stands before the first point
abbrev pub before_point : List ℕ → List ℕ
before_point text = before_first (λ byte. byte == 0o56) text

-- digits, or none
abbrev pub whole_in : List ℕ → Option ℕ
whole_in text = if length text == 0 then Some 0 else digits_value 10 text

-- a fraction, of its digits before and after its point; it is below 1
abbrev pub fraction_in : List ℕ → List ℕ → Numeral
fraction_in whole decimals =
    option_map_or (λ w. option_map_or (λ d. if w == 0 then at_most greatest_magnitude (scaled d (10 ^ length decimals)) else TooLarge)
    (number_of 10 9 decimals) NoForm) (whole_in whole) NoForm

-- digits; or a fraction: digits or none, a point and 1 to 9 digits
abbrev pub magnitude_in : List ℕ → Numeral
magnitude_in text =
    if length (before_point text) == length text then numeral greatest_magnitude (digits_value 10 text)
    else fraction_in (before_point text) (drop (length (before_point text) + 1) text)

-- the complement of a word
abbrev pub complemented : Numeral → Numeral
complemented (Is word) = Is (neg word)
complemented other = other

-- a decimal constant: a sign or none and a magnitude; a minus complements its word
abbrev pub decimal_in : List ℕ → Numeral
decimal_in text =
    if first_is (λ byte. byte == 0o53) text then magnitude_in (drop 1 text)
    else if first_is (λ byte. byte == 0o55) text then complemented (magnitude_in (drop 1 text))
    else magnitude_in text

-- an offset: a sign followed by a number
abbrev pub shift_in : List ℕ → Option Shift
shift_in text =
    if first_is (λ byte. byte == 0o53) text then with_form Plus (number_in (drop 1 text))
    else if first_is (λ byte. byte == 0o55) text then with_form Minus (number_in (drop 1 text))
    else None

-- a symbol of a label's form, or a number
abbrev pub term_in : List ℕ → Option Term
term_in text = if is_name text then Some (Term.Named text) else with_form Term.Number (number_in text)

-- a term moved by an offset
abbrev pub moved_by : Term → Shift → Operand
moved_by term shift = record { term = term; shift = shift }

-- an operand of one field or two: a signed number alone, from the location; or a term, with an offset or none
abbrev pub operand_in : List (List ℕ) → Option Operand
operand_in (text ∷ []) =
    if first_is is_sign text then option_map (moved_by Term.Here) (shift_in text)
    else option_map (λ term. moved_by term (Plus (Some 0))) (term_in text)
operand_in (text ∷ offset ∷ []) = option_and_then (λ term. option_map (moved_by term) (shift_in offset)) (term_in text)
operand_in _ = None

-- the location after the line's
abbrev pub next_location : Operand
next_location = moved_by Term.Here (Plus (Some 1))

-- what one field is as a number
abbrev pub alone : (List ℕ → Numeral) → List (List ℕ) → Numeral
alone read (text ∷ []) = read text
alone read _ = NoForm

-- what no field may follow
abbrev pub unfollowed : {A : Type 0} → A → List (List ℕ) → Option A
unfollowed content [] = Some content
unfollowed content _ = None

-- octal digits
abbrev pub octal_in : List ℕ → Numeral
octal_in text = numeral greatest_number (digits_value 8 text)

-- a plus sign and a number
abbrev pub count_in : List ℕ → Numeral
count_in text = if first_is (λ byte. byte == 0o53) text then number_in (drop 1 text) else NoForm

-- how many words ERASE passes besides one: nothing, or a plus sign and a number alone
abbrev pub erased_in : List (List ℕ) → Numeral
erased_in [] = Is 0
erased_in (text ∷ rest) = alone count_in (text ∷ rest)

-- what an operator says with the fields after it
abbrev pub operation_of : Option Operator → List (List ℕ) → Operation
operation_of None rest = Unknown
operation_of (Some Operator.Setloc) rest = Setloc (operand_in rest)
operation_of (Some (Operator.Bank taken)) rest = Bank taken (alone number_in rest)
operation_of (Some Operator.Erase) rest = Erase (erased_in rest)
operation_of (Some Operator.Equals) rest = Equals (operand_in rest)
operation_of (Some Operator.Ebank) rest = Ebank (operand_in rest)
operation_of (Some Operator.Octal) rest = Gives (with_form Constant (alone octal_in rest))
operation_of (Some Operator.Decimal) rest = Gives (with_form Constant (alone decimal_in rest))
operation_of (Some Operator.FarAddress) rest = Gives (option_map FarAddress (operand_in rest))
operation_of (Some (Operator.Plain code)) rest = Gives (unfollowed (Plain code) rest)
operation_of (Some (Operator.Addressed code)) rest = Gives (option_map (Addressed code) (operand_in rest))
operation_of (Some (Operator.ToNext code)) rest = Gives (unfollowed (Addressed code next_location) rest)

-- a label, where its field has a name's form
abbrev pub label_in : Option (List ℕ) → Label
label_in None = Missing
label_in (Some text) = if is_name text then Named text else Malformed

-- what the fields besides the label say
abbrev pub operation_in : List Piece → Operation
operation_in [] = Nothing
operation_in (operator ∷ rest) = operation_of (value_in operators operator.text) (texts rest)

-- what a line says
unfoldable pub statement_of : List ℕ → Statement
statement_of line = record {
  label = label_in (option_map (λ piece. piece.text) (label_of (fields line)));
  operation = operation_in (others_of (fields line));
}
