-- The language of flight programs: what it has beyond the standard one, and what a line says in either.
use Rattle.std.specs.Prelude.{ℕ, ◌+◌, ◌-◌, ◌*◌, ◌/◌, ◌%◌, ◌==◌, ◌&&◌, ◌||◌, not, nat_le, nat_lt, Bool, true, false, List, [], ◌∷◌, length}
use Rattle.std.specs.Prelude.{map, take, drop, slice_get, codes, Option, None, Some, option_map, if◌then◌else◌}
use Rattle.std.specs.List.{list_any}
use Rattle.std.specs.Option.{option_map_or, option_or}
use Rattle.agc_text.specs.Digits.{number_of}
use Rattle.agc_text.specs.Fields.{Piece, texts, before_comment, fields, label_of, others_of}
use Rattle.agc_text.specs.Tables.{value_in}
use Rattle.yayul.specs.Operators.{operators, addressed, code}
use Rattle.yayul.specs.Forms.{is_sign, first_is, is_digits, greatest_number, alone, complemented, number_in, octal_in, with_form, shift_in}
use Rattle.yayul.specs.Forms.{moved_by, operand_in, operation_of, label_in, statement_of}
use Rattle.yayul.specs.Scales.{decimal_content}
use Rattle.yayul.specs.Language.{Address, Addressed, AddressedCode, All, Bank, BankRange, BankWord, Channel}
use Rattle.yayul.specs.Language.{Complemented, Constant, Constants, Content}
use Rattle.yayul.specs.Language.{Ebank, Equals, ErasablePlace, FarAddress, FarComplement, FixedAddress, FixedPlace}
use Rattle.yayul.specs.Language.{Flight, FlightOperator, Gives, Is}
use Rattle.yayul.specs.Language.{Label, Language, Location, Minus, Missing, Named, Nine, No, NoForm, Nothing}
use Rattle.yayul.specs.Language.{Numeral, Octals, One, Operand, Pair}
use Rattle.yayul.specs.Language.{Operation, Operator, PassedOver, Plus, Setloc, Shift, Standard, Statement, Takes, Ten, Term, Twelve, Two}
use Rattle.yayul.specs.Language.{TwoOrThree, Unknown, VerbNoun}
use Rattle.yayul.specs.declared.role.Role.{Role}

abbrev pub is_flight : Language → Bool
is_flight Standard = false
is_flight Flight = true

-- ## Lines
-- the most lines of a source
abbrev pub most_lines : Language → ℕ
most_lines Standard = 65536
most_lines Flight = 262144

-- the bytes of a line that its length counts: in the language of flight programs of a comment its first `#` alone
abbrev pub measured : Language → List ℕ → List ℕ
measured Standard line = line
measured Flight line = take (length (before_comment line) + 1) line

-- ## Counts
-- a count: a sign and digits, which may end in `D`
abbrev pub is_count : List ℕ → Bool
is_count text = first_is is_sign text && is_digits (drop 1 text)

-- what follows a field of a line
abbrev pub after_field : List ℕ → Piece → List ℕ
after_field line field = drop (field.start + length field.text) line

-- a line without its first field, where that is a count
abbrev pub without_count : List ℕ → Option Piece → List ℕ
without_count line None = line
without_count line (Some first) = if is_count first.text then after_field line first else line

-- the label of a line, else its operator
abbrev pub first_field : List ℕ → Option Piece
first_field line = option_or (label_of (fields line)) (slice_get (others_of (fields line)) 0)

-- a line without a count that stands first
abbrev pub uncounted : List ℕ → List ℕ
uncounted line = without_count line (first_field line)

-- ## Names and operands
-- a sign and a name's characters, 2 to 8 in all, where not digits alone follow the sign
abbrev pub is_signed_name : List ℕ → Bool
is_signed_name text =
    first_is is_sign text && nat_le 2 (length text) && nat_le (length text) 8 && not (list_any (λ byte. byte == 0o44) text)
    && not (is_digits (drop 1 text))

-- a label, where its field has a name's form
abbrev pub flight_label_in : Option (List ℕ) → Label
flight_label_in None = Missing
flight_label_in (Some text) = if is_signed_name text then Named text else label_in (Some text)

-- a name, with an offset or none
abbrev pub named_operand : List ℕ → List (List ℕ) → Option Operand
named_operand name [] = Some (moved_by (Term.Named name) (Plus (Some 0)))
named_operand name (offset ∷ []) = option_map (moved_by (Term.Named name)) (shift_in offset)
named_operand name _ = None

-- an operand, which may be a name with a sign in front
abbrev pub flight_operand_in : List (List ℕ) → Option Operand
flight_operand_in [] = None
flight_operand_in (text ∷ rest) = if is_signed_name text then named_operand text rest else operand_in (text ∷ rest)

-- a number that names a place of a bank, besides banks 2 and 3: bank 0 from 010000 on, bank 1 from 012000, bank 4 from 020000, and so on
abbrev pub is_pseudo_address : ℕ → Bool
is_pseudo_address n = nat_le 0o10000 n && nat_le n greatest_number && (nat_lt n 0o14000 || nat_le 0o20000 n)

-- the place that it names
abbrev pub pseudo_place : ℕ → Operand
pseudo_place n = moved_by (Term.Place (n / 0o2000 - 4) (n % 0o2000)) (Plus (Some 0))

-- a number so many on, which may name a place
abbrev pub placed : Operand → ℕ → Operand
placed operand n = if is_pseudo_address n then pseudo_place n else operand

-- an operand; a number, moved by its offset, may name a place
abbrev pub with_place : Operand → Term → Shift → Operand
with_place operand (Term.Number (Some n)) (Plus (Some count)) = placed operand (n + count)
with_place operand (Term.Number (Some n)) (Minus (Some count)) = placed operand (n - count)
with_place operand _ _ = operand

-- an operand that asks for an address or a place
abbrev pub address_in : List (List ℕ) → Option Operand
address_in rest = option_map (λ operand. with_place operand operand.term operand.shift) (flight_operand_in rest)

-- ## Operators
-- each operator that the standard language lacks, or has with fewer forms, with what it says and what it is
unfoldable pub flight_rows : List (List ℕ × (FlightOperator × Role))
flight_rows =
    (codes "EQUALS", (FlightOperator.Equals, Role.Equals))
    ∷ (codes "=", (FlightOperator.Equals, Role.Equals))
    ∷ (codes "BANK", (FlightOperator.Bank All, Role.Bank))
    ∷ (codes "BLOCK", (FlightOperator.Bank TwoOrThree, Role.Block))
    ∷ (codes "COUNT", (PassedOver, Role.Ignored))
    ∷ (codes "COUNT*", (PassedOver, Role.Ignored))
    ∷ (codes "BNKSUM", (PassedOver, Role.Ignored))
    ∷ (codes "SUBRO", (PassedOver, Role.Ignored))
    ∷ (codes "MEMORY", (PassedOver, Role.Ignored))
    ∷ (codes "CHECK=", (PassedOver, Role.Ignored))
    ∷ (codes "OCT", (FlightOperator.Octal, Role.Octal))
    ∷ (codes "OCTAL", (FlightOperator.Octal, Role.Octal))
    ∷ (codes "2OCT", (Octals, Role.OctalPair))
    ∷ (codes "VN", (VerbNoun, Role.VerbNoun))
    ∷ (codes "DEC", (FlightOperator.Decimal One, Role.Decimal))
    ∷ (codes "2DEC", (FlightOperator.Decimal Two, Role.DecimalPair))
    ∷ (codes "DEC*", (FlightOperator.Decimal One, Role.Decimal))
    ∷ (codes "2DEC*", (FlightOperator.Decimal Two, Role.DecimalPair))
    ∷ (codes "BBCON", (FlightOperator.BankWord, Role.BankConstant))
    ∷ (codes "-2CADR", (FlightOperator.FarComplement, Role.FarComplement))
    ∷ (codes "-CADR", (FlightOperator.Complemented (code 0 Twelve No FixedPlace), Role.FixedComplement))
    ∷ (codes "-GENADR", (FlightOperator.Complemented (code 0 Twelve No Address), Role.Address))
    ∷ (codes "-CCS", (FlightOperator.Complemented (code 0o10000 Ten No Address), Role.CountComplement))
    ∷ (codes "-1DNADR", (FlightOperator.Complemented (code 0 Twelve No ErasablePlace), Role.Downlist))
    ∷ (codes "-2DNADR", (FlightOperator.Complemented (code 0o4000 Twelve No ErasablePlace), Role.Downlist))
    ∷ (codes "-3DNADR", (FlightOperator.Complemented (code 0o10000 Twelve No ErasablePlace), Role.Downlist))
    ∷ (codes "-4DNADR", (FlightOperator.Complemented (code 0o14000 Twelve No ErasablePlace), Role.Downlist))
    ∷ (codes "-5DNADR", (FlightOperator.Complemented (code 0o20000 Twelve No ErasablePlace), Role.Downlist))
    ∷ (codes "-6DNADR", (FlightOperator.Complemented (code 0o24000 Twelve No ErasablePlace), Role.Downlist))
    ∷ (codes "-DNCHAN", (FlightOperator.Complemented (code 0o34000 Nine No Channel), Role.DownlistChannel))
    ∷ (codes "CAF", (FlightOperator.ReadFixed, Role.ReadFixed))
    ∷ (codes "GENADR", (FlightOperator.Standard (addressed 0 Twelve No Address), Role.Address))
    ∷ (codes "REMADR", (FlightOperator.Standard (addressed 0 Twelve No Address), Role.Address))
    ∷ (codes "1DNADR", (FlightOperator.Standard (addressed 0 Twelve No ErasablePlace), Role.Downlist))
    ∷ (codes "2DNADR", (FlightOperator.Standard (addressed 0o4000 Twelve No ErasablePlace), Role.Downlist))
    ∷ (codes "3DNADR", (FlightOperator.Standard (addressed 0o10000 Twelve No ErasablePlace), Role.Downlist))
    ∷ (codes "4DNADR", (FlightOperator.Standard (addressed 0o14000 Twelve No ErasablePlace), Role.Downlist))
    ∷ (codes "5DNADR", (FlightOperator.Standard (addressed 0o20000 Twelve No ErasablePlace), Role.Downlist))
    ∷ (codes "6DNADR", (FlightOperator.Standard (addressed 0o24000 Twelve No ErasablePlace), Role.Downlist))
    ∷ (codes "DNCHAN", (FlightOperator.Standard (addressed 0o34000 Nine No Channel), Role.DownlistChannel))
    ∷ []

-- what each says, by its name
unfoldable pub flight_operators : List (List ℕ × FlightOperator)
flight_operators = map (λ row. (row.0, row.1.0)) flight_rows

-- the operator of a name: that of its own row, else that of the standard language
abbrev pub flight_operator : List ℕ → Option FlightOperator
flight_operator name = option_or (value_in flight_operators name) (option_map FlightOperator.Standard (value_in operators name))

-- the location, where no field stands, else the operand
abbrev pub operand_or_here : List (List ℕ) → Option Operand
operand_or_here [] = Some (moved_by Term.Here (Plus (Some 0)))
operand_or_here (text ∷ rest) = flight_operand_in (text ∷ rest)

-- the bank of a location
abbrev pub bank_at : Location → Numeral
bank_at (Location.Erasable n) = NoForm
bank_at (Location.Fixed bank n) = Is bank

-- past the words of the bank of a location, where no field stands, else of the bank that is named
abbrev pub bank_or_here : Location → BankRange → List (List ℕ) → Operation
bank_or_here here taken [] = Bank All (bank_at here)
bank_or_here here taken (text ∷ rest) = Bank taken (alone number_in (text ∷ rest))

-- octal digits; or a sign and octal digits, which a minus complements
abbrev pub signed_octal_in : List ℕ → Numeral
signed_octal_in text =
    if first_is (λ byte. byte == 0o53) text then octal_in (drop 1 text)
    else if first_is (λ byte. byte == 0o55) text then complemented (octal_in (drop 1 text))
    else octal_in text

-- two words of what two texts are as numbers
abbrev pub both : Numeral → Numeral → Option Content
both (Is first) (Is second) = Some (Constants (Some (record { first = first; second = second })))
both _ _ = None

-- ten octal digits, five to a word
abbrev pub octals_in : List (List ℕ) → Option Content
octals_in (text ∷ []) = if length text == 10 then both (octal_in (take 5 text)) (octal_in (drop 5 text)) else None
octals_in _ = None

-- a verb and a noun of two decimal digits each, the verb from the eighth bit on
abbrev pub verb_noun_in : List ℕ → Numeral
verb_noun_in text = if length text == 4 then option_map_or (λ n. Is (n / 100 * 0o200 + n % 100)) (number_of 10 4 text) NoForm else NoForm

-- the fields after an operand, which are scales where it is a decimal constant
abbrev pub scales_after : List ℕ → Option Piece → List (List ℕ)
scales_after line None = []
scales_after line (Some operand) = texts (fields (after_field line operand))

-- ## Addresses below 0
-- what a field holds that is an address of any memory, or the next one
abbrev pub takes_any : Takes → Bool
takes_any Address = true
takes_any Pair = true
takes_any _ = false

-- a code that leads with the field 0 to so many words less
abbrev pub less : AddressedCode → ℕ → AddressedCode
less i count = record i { least = i.least - count }

-- a code with an address that is so many below 0, fewer than 02000: they are taken from the code
abbrev pub below_zero : AddressedCode → Operand → ℕ → Content
below_zero i operand count =
    if takes_any i.takes && nat_lt count 0o2000 && nat_le count i.least then
    Addressed (less i count) (moved_by (Term.Number (Some 0)) (Plus (Some 0)))
    else Addressed i operand

-- a code with an operand, which may lie below the address 0
abbrev pub addressed_content : AddressedCode → Operand → Term → Shift → Content
addressed_content i operand (Term.Number (Some n)) (Minus (Some count)) =
    if nat_lt n count then below_zero i operand (count - n) else Addressed i operand
addressed_content i operand _ _ = Addressed i operand

-- ## CAF
-- what CAF takes: a number may be an address of erasable memory, as one that INDEX adds to is
abbrev pub read_fixed_takes : Term → Takes
read_fixed_takes (Term.Number n) = Address
read_fixed_takes _ = FixedAddress

-- the word of CAF
abbrev pub fixed_reading : Operand → Content
fixed_reading operand = addressed_content (code 0o30000 Twelve No (read_fixed_takes operand.term)) operand operand.term operand.shift

-- what an operator of the standard language says with the fields after it
abbrev pub standard_operation_of : Operator → List (List ℕ) → Operation
standard_operation_of Operator.Setloc rest = Setloc (address_in rest)
standard_operation_of Operator.Ebank rest = Ebank (address_in rest)
standard_operation_of Operator.FarAddress rest = Gives (option_map FarAddress (address_in rest))
standard_operation_of (Operator.Addressed i) rest =
    Gives (option_map (λ operand. addressed_content i operand operand.term operand.shift) (address_in rest))
standard_operation_of operator rest = operation_of (Some operator) rest

-- what an operator says with the fields after it, where it stands at a location, and where these stand after its operand
abbrev pub flight_operation_of : Location → List (List ℕ) → Option FlightOperator → List (List ℕ) → Operation
flight_operation_of here scales None rest = Unknown
flight_operation_of here scales (Some PassedOver) rest = Nothing
flight_operation_of here scales (Some FlightOperator.Equals) rest = Equals (operand_or_here rest)
flight_operation_of here scales (Some (FlightOperator.Bank taken)) rest = bank_or_here here taken rest
flight_operation_of here scales (Some FlightOperator.Octal) rest = Gives (with_form Constant (alone signed_octal_in rest))
flight_operation_of here scales (Some Octals) rest = Gives (octals_in rest)
flight_operation_of here scales (Some VerbNoun) rest = Gives (with_form Constant (alone verb_noun_in rest))
flight_operation_of here scales (Some (FlightOperator.Decimal precision)) [] = Gives None
flight_operation_of here scales (Some (FlightOperator.Decimal precision)) (text ∷ rest) = Gives (decimal_content precision text scales)
flight_operation_of here scales (Some (FlightOperator.Complemented i)) rest = Gives (option_map (Complemented i) (address_in rest))
flight_operation_of here scales (Some FlightOperator.FarComplement) rest = Gives (option_map FarComplement (address_in rest))
flight_operation_of here scales (Some FlightOperator.BankWord) rest = Gives (option_map BankWord (address_in rest))
flight_operation_of here scales (Some FlightOperator.ReadFixed) rest = Gives (option_map fixed_reading (address_in rest))
flight_operation_of here scales (Some (FlightOperator.Standard operator)) rest = standard_operation_of operator rest

-- ## Statements
-- what the fields besides the label say
abbrev pub flight_operation_in : Location → List ℕ → List Piece → Operation
flight_operation_in here line [] = Nothing
flight_operation_in here line (operator ∷ rest) = flight_operation_of here (scales_after line (slice_get rest 0))
    (flight_operator operator.text) (texts rest)

-- what a line says that has no count
unfoldable pub uncounted_statement : Location → List ℕ → Statement
uncounted_statement here line = record {
  label = flight_label_in (option_map (λ piece. piece.text) (label_of (fields line)));
  operation = flight_operation_in here line (others_of (fields line));
}

-- what a line says in a language, where it stands at a location
abbrev pub statement_in : Language → Location → List ℕ → Statement
statement_in Standard here line = statement_of line
statement_in Flight here line = uncounted_statement here (uncounted line)
