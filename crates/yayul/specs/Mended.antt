-- What the operator of a line says in spite of an operand that has no form: the words that it gives, with an operand of no account.
use Rattle.std.specs.Prelude.{ℕ, Bool, true, false, not, List, slice_get, Option, None, Some, is_some, option_and_then}
use Rattle.agc_text.specs.Fields.{Piece, fields, others_of}
use Rattle.agc_text.specs.Tables.{value_in}
use Rattle.yayul.specs.Operators.{operators}
use Rattle.yayul.specs.Forms.{moved_by, next_location}
use Rattle.yayul.specs.Flight.{fixed_reading, flight_operator, uncounted}
use Rattle.yayul.specs.Language.{Addressed, BankWord, Complemented, Constant, Constants, Content, FarAddress, FarComplement, Flight}
use Rattle.yayul.specs.Language.{FlightOperator, Gives, Language, Octals, One, Operand, Operation, Operator, Plain, Plus, Precision}
use Rattle.yayul.specs.Language.{Standard, Term, Two, VerbNoun}

-- ## Fields
-- the fields of a line, without a count that a language passes over
abbrev pub counted_out : Language → List ℕ → List ℕ
counted_out Standard text = text
counted_out Flight text = uncounted text

-- the field that is so many after the label
abbrev pub field_after : Language → List ℕ → ℕ → Option Piece
field_after language text n = slice_get (others_of (fields (counted_out language text))) n

-- no operand stands
abbrev pub lacks_operand : Language → List ℕ → Bool
lacks_operand language text = not (is_some (field_after language text 1))

-- ## Words
-- an operand, and words, of no account
abbrev pub any_operand : Operand
any_operand = moved_by (Term.Number (Some 0)) (Plus (Some 0))

abbrev pub any_word : Content
any_word = Constant (Some 0)

abbrev pub any_words : Content
any_words = Constants (Some (record { first = 0; second = 0 }))

-- the words that an operator gives, whatever its operand
abbrev pub words_of : Operator → Option Content
words_of Operator.Octal = Some any_word
words_of Operator.Decimal = Some any_word
words_of Operator.FarAddress = Some (FarAddress any_operand)
words_of (Operator.Plain code) = Some (Plain code)
words_of (Operator.Addressed code) = Some (Addressed code any_operand)
words_of (Operator.ToNext code) = Some (Addressed code next_location)
words_of _ = None

abbrev pub decimal_words : Precision → Content
decimal_words One = any_word
decimal_words Two = any_words

abbrev pub flight_words_of : FlightOperator → Option Content
flight_words_of FlightOperator.Octal = Some any_word
flight_words_of Octals = Some any_words
flight_words_of VerbNoun = Some any_word
flight_words_of (FlightOperator.Decimal precision) = Some (decimal_words precision)
flight_words_of (FlightOperator.Complemented code) = Some (Complemented code any_operand)
flight_words_of FlightOperator.FarComplement = Some (FarComplement any_operand)
flight_words_of FlightOperator.BankWord = Some (BankWord any_operand)
flight_words_of FlightOperator.ReadFixed = Some (fixed_reading any_operand)
flight_words_of (FlightOperator.Standard operator) = words_of operator
flight_words_of _ = None

-- the words that an operator of a name gives
abbrev pub words_named : Language → List ℕ → Option Content
words_named Standard name = option_and_then words_of (value_in operators name)
words_named Flight name = option_and_then flight_words_of (flight_operator name)

-- the words that the operator of a line gives
unfoldable pub given_by : Language → List ℕ → Option Content
given_by language text = option_and_then (λ operator. words_named language operator.text) (field_after language text 0)

-- ## Operations
-- an operator gives words, and its operand has no form
abbrev pub lacks_form : Operation → Bool
lacks_form (Gives None) = true
lacks_form _ = false

-- what a line says, where such an operand has one of no account
abbrev pub mended : Language → List ℕ → Operation → Operation
mended language text (Gives None) = Gives (given_by language text)
mended language text operation = operation
