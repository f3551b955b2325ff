-- What a fault of a flight source is in words, where these are others than those of the standard language: of a form that is not taken,
-- since what yaYUL makes of it is not known for sure, that this is so.
use Rattle.std.specs.Prelude.{ℕ, ◌&&◌, not, Bool, true, false, nat_le, nat_lt, List, []}
use Rattle.std.specs.Prelude.{◌∷◌, codes, drop, is_some, unwrap_or, if◌then◌else◌}
use Rattle.std.specs.Option.{option_map_or}
use Rattle.agc_text.specs.Digits.{digits_value}
use Rattle.agc_text.specs.Tables.{value_in}
use Rattle.yayul.specs.Flight.{is_count}
use Rattle.yayul.specs.FlightForms.{has_flight_form}
use Rattle.yayul.specs.declared.faults.FaultKind.{FaultKind}
use Rattle.yayul.specs.declared.faults.FaultKind.TheVariants.{BadLabel, BadOperand, LongLine, OutOfRange, TooManyLines, UnknownOperator}
use Rattle.yayul.specs.declared.faults.FaultKind.TheVariants.{UsedTooEarly, WrongKindOfAddress}
use Rattle.yayul.specs.declared.finding.Finding.{Finding}
use Rattle.yayul.specs.declared.language.Language.{Language}
use Rattle.yayul.specs.declared.language.Language.TheVariants.{Flight, Standard}
use Rattle.warnings.specs.Roles.{is_count_complement, is_equals, is_erase, is_octal, is_octal_pair}
use Rattle.warnings.specs.Roles.{is_verb_noun, names_bank, refuses_label, takes_decimal, takes_low_bank}
use Rattle.yayul.specs.Readings.{Parts}
use Rattle.diagnostics.specs.Causes.{Cause, cured, cured_by, fault_cause, has_foreign_comment, holds, said}
use Rattle.warnings.specs.Fields.{begins, is_signed}
use Rattle.diagnostics.specs.Causes.{is_beyond_octal, symbol_cause}
use Rattle.warnings.specs.Fields.{text_of}
use Rattle.near_names.specs.Names.{is_short}

-- ## Operators
-- those of which it is not known for sure what yaYUL makes, and what stands for them, or nothing
abbrev pub unsure_operators : List (List ℕ × List ℕ)
unsure_operators =
    (codes "MM", codes "OCT makes a word")
    ∷ (codes "NV", codes "OCT makes a word")
    ∷ (codes "EDRUPT", codes "OCT makes a word")
    ∷ (codes "DNPTR", codes "OCT makes a word")
    ∷ (codes "-DNPTR", codes "OCT makes a word")
    ∷ (codes "2FCADR", codes "OCT makes a word")
    ∷ (codes "2BCADR", codes "OCT makes a word")
    ∷ (codes "BBCON*", codes "OCT makes a word")
    ∷ (codes "=ECADR", codes "EQUALS gives & a value")
    ∷ (codes "=MINUS", codes "EQUALS gives & a value")
    ∷ (codes "=PLUS", codes "EQUALS gives & a value")
    ∷ (codes "SBANK=", [])
    ∷ []

-- what yaYUL makes of each, perhaps, and how sure that is
abbrev pub alternatives : List (List ℕ × List ℕ)
alternatives =
    (codes "MM", codes "the word of DEC (80 in 100)")
    ∷ (codes "NV", codes "the word of VN (60 in 100)")
    ∷ (codes "EDRUPT", codes "07000, and 9 bits of the operand (75 in 100)")
    ∷ (codes "DNPTR", codes "30000, and the address of 12 bits (88 in 100)")
    ∷ (codes "-DNPTR", codes "the complement of the word of DNPTR (80 in 100)")
    ∷ (codes "2FCADR", codes "the words of FCADR and of GENADR (60 in 100)")
    ∷ (codes "2BCADR", codes "the words of 2CADR (75 in 100)")
    ∷ (codes "BBCON*", codes "66100 (75 in 100)")
    ∷ (codes "=ECADR", codes "a number, the address of 11 bits (70 in 100)")
    ∷ (codes "=MINUS", codes "a number, the location less the operand (60 in 100)")
    ∷ (codes "=PLUS", codes "a number, the location and the operand (60 in 100)")
    ∷ (codes "SBANK=", codes "bits 7 to 5 of each 2CADR behind it (60 in 100)")
    ∷ []

-- ## Causes
-- E13: a label that has a sign and no name's form
abbrev pub signed_label_cause : Parts → Cause
signed_label_cause parts =
    if is_short (text_of parts.label) then said (codes "& is a sign alone, and no label")
    else said (codes "& has more than 8 characters, the most of a label")

abbrev pub has_signed_label : Parts → Bool
has_signed_label parts = is_signed (text_of parts.label) && not (refuses_label parts.role) && not (holds 0o44 (text_of parts.label))

-- decimal digits, and an `E` after them
abbrev pub has_ten_alone : Parts → Bool
has_ten_alone parts = is_some (digits_value 10 (text_of parts.operand)) && begins 0o105 (text_of parts.offset)

-- E16 of a decimal constant
abbrev pub decimal_cause : Parts → Cause
decimal_cause parts =
    if has_ten_alone parts then
    cured (codes "digits with E need a point or B: whether yaYUL makes a whole number of them or a fraction is not known for sure")
    (codes "B-28 last makes a whole number of two words, B-14 of one")
    else said (codes "this is no decimal constant, as .75, 5 B-14 and 1.5 E3 B-14 are")

-- an operator that takes octal digits, without an offset
abbrev pub has_octal_alone : Parts → Bool
has_octal_alone parts = is_octal parts.role && not (is_some parts.offset)

-- a sign and no count, without an offset
abbrev pub has_signed_alone : Parts → Bool
has_signed_alone parts = is_signed (text_of parts.operand) && not (is_count (text_of parts.operand)) && not (is_some parts.offset)

-- E16 of an operand that stands and has not the form that is asked for
abbrev pub form_cause : Bool → List ℕ → Parts → Finding → Cause
form_cause near text parts f =
    if takes_decimal parts.role then decimal_cause parts
    else if has_octal_alone parts then cured (codes "% takes octal digits, 0 to 7, or a sign and such digits, and @ is neither")
    (codes "DEC takes decimal digits")
    else if is_octal_pair parts.role then said
    (codes "2OCT takes ten octal digits, 0 to 7, in one field: fewer perhaps with zeros before them (85 in 100)")
    else if is_verb_noun parts.role then said
    (codes "VN takes four decimal digits, two of the verb and two of the noun: fewer perhaps with zeros before them (85 in 100)")
    else if has_signed_alone parts then said (codes "@ is no symbol, which has 8 characters at most, and no number")
    else if is_beyond_octal (text_of parts.operand) then
    cured (codes "numbers are octal, and @ has a digit 8 or 9: perhaps it is decimal (60 in 100)") (codes "@D is decimal")
    else fault_cause near text parts f

-- E16 of an operand
abbrev pub flight_operand_cause : Bool → List ℕ → Parts → Finding → Cause
flight_operand_cause near text parts f =
    if has_foreign_comment parts then fault_cause near text parts f
    else if is_erase parts.role then
    cured (codes "ERASE takes nothing, or a plus sign and a number: of a range perhaps all words (60 to 90 in 100)")
    (codes "ERASE reserves one word, ERASE +1 two")
    else if names_bank parts.role && not (is_some parts.operand) then said
    (codes "% without a bank goes on in that of the location, which is in erasable memory")
    else if not (is_some parts.operand) then fault_cause near text parts f
    else form_cause near text parts f

-- E18 of a name that waits
abbrev pub waiting_cause : Bool → Parts → Cause
waiting_cause near parts = symbol_cause
    (codes "@ has no value: no line defines it, or names wait for one another in a circle, or in a chain of more than eight") near parts

-- E25 of operators that flight sources alone have
abbrev pub flight_kind_cause : Bool → List ℕ → Parts → Finding → Cause
flight_kind_cause near text parts f =
    if takes_low_bank parts.role then said
    (codes "% takes a fixed place of a bank below 30, and @^ is none: from bank 30 on yaYUL perhaps adds 060 (65 in 100)")
    else if is_count_complement parts.role then said (codes "% takes a word of erasable memory, and @^ is not there")
    else fault_cause near text parts f

-- octal digits of an address in the window, moved back
abbrev pub is_moved_back : Parts → Bool
is_moved_back parts = option_map_or (λ n. nat_lt n 0o10000) (digits_value 8 (text_of parts.operand)) false
    && begins 0o55 (text_of parts.offset)

-- octal digits that name no place, between those of bank 1 and those of bank 4
abbrev pub is_between_banks : Parts → Bool
is_between_banks parts = option_map_or (λ n. nat_le 0o14000 n && nat_lt n 0o20000) (digits_value 8 (text_of parts.operand)) false
    && not (is_some parts.offset)

-- a number from 010000 on, as those of places are, taken from the operand
abbrev pub is_moved_far : Parts → Bool
is_moved_far parts = begins 0o55 (text_of parts.offset)
    && option_map_or (nat_le 0o10000) (digits_value 8 (drop 1 (text_of parts.offset))) false

-- a symbol without an offset
abbrev pub is_symbol_alone : Parts → Bool
is_symbol_alone parts = not (is_some (digits_value 8 (text_of parts.operand))) && not (is_some parts.offset)

-- E26: a number out of its range
abbrev pub flight_range_cause : Bool → List ℕ → Parts → Finding → Cause
flight_range_cause near text parts f =
    if takes_decimal parts.role then said (codes "this is more than % holds: yaYUL perhaps makes the greatest of it (85 in 100, of DEC 70)")
    else if is_octal parts.role then said (codes "a word holds 77777 at most, and @ is more")
    else if is_moved_back parts then said (codes "an address below 0 is not taken: what yaYUL makes of it is not known for sure")
    else if is_between_banks parts then said (codes "@ names no place: from 14000 to 17777 the order of the banks is not known for sure")
    else if is_moved_far parts then
    said (codes "this leads out of its bank: less the number of a place it is perhaps an offset (88 in 100)")
    else if is_symbol_alone parts then
    said (codes "@ is past the last address: a number of EQUALS is perhaps a place from 10000 on (88 in 100)")
    else fault_cause near text parts f

-- E13: a label without a label's form
abbrev pub flight_label_cause : Bool → List ℕ → Parts → Finding → Cause
flight_label_cause near text parts f = if has_signed_label parts then signed_label_cause parts else fault_cause near text parts f

-- E15: what is no operator
abbrev pub flight_operator_cause : Bool → List ℕ → Parts → Finding → Cause
flight_operator_cause near text parts f =
    if is_some (value_in unsure_operators (text_of parts.operator)) then
    cured_by (codes "% is not taken, since it is not sure what yaYUL makes of it: perhaps !")
    (unwrap_or (value_in unsure_operators (text_of parts.operator)) [])
    (unwrap_or (value_in alternatives (text_of parts.operator)) [])
    else fault_cause near text parts f

-- E18: a symbol that has no value where it is asked for
abbrev pub flight_early_cause : Bool → List ℕ → Parts → Finding → Cause
flight_early_cause near text parts f = if is_equals parts.role then waiting_cause near parts else fault_cause near text parts f

-- a fault of a kind of a line of a flight source
abbrev pub flight_cause_of_kind : Bool → List ℕ → Parts → Finding → FaultKind → Cause
flight_cause_of_kind near text parts f LongLine = said (codes "the line has more than 120 bytes before its comment")
flight_cause_of_kind near text parts f TooManyLines = said (codes "the source has more than 262144 lines")
flight_cause_of_kind near text parts f BadLabel = flight_label_cause near text parts f
flight_cause_of_kind near text parts f UnknownOperator = flight_operator_cause near text parts f
flight_cause_of_kind near text parts f BadOperand = flight_operand_cause near text parts f
flight_cause_of_kind near text parts f UsedTooEarly = flight_early_cause near text parts f
flight_cause_of_kind near text parts f WrongKindOfAddress = flight_kind_cause near text parts f
flight_cause_of_kind near text parts f OutOfRange = flight_range_cause near text parts f
flight_cause_of_kind near text parts f _ = fault_cause near text parts f

-- a fault of a line of a flight source
abbrev pub flight_cause : Bool → List ℕ → Parts → Finding → Cause
flight_cause near text parts f = flight_cause_of_kind near text parts f f.kind

-- a fault of a line's form: its length, its label, its operator or its operand
abbrev pub is_of_form : FaultKind → Bool
is_of_form LongLine = true
is_of_form BadLabel = true
is_of_form UnknownOperator = true
is_of_form BadOperand = true
is_of_form _ = false

-- such a fault, where the language of flight programs takes that form
abbrev pub is_of_flight : List ℕ → FaultKind → Bool
is_of_flight text kind = is_of_form kind && has_flight_form text

-- a fault of a line of a language in words, where a text from other lines stands for `~` or none does
abbrev pub told_cause : Language → Bool → List ℕ → Parts → Finding → Cause
told_cause Standard near text parts f = record (fault_cause near text parts f) { flight = is_of_flight text f.kind }
told_cause Flight near text parts f = flight_cause near text parts f
