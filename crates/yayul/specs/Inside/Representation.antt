-- How the definitions see what the code holds.
use Rattle.std.specs.Prelude.{ℕ, ◌+◌, ◌&&◌, ◌||◌, Bool, true, false, nat_lt, List, [], ◌∷◌, ◌++◌, get_or, Option, None, Some, Result, Ok}
use Rattle.std.specs.Prelude.{Err, if◌then◌else◌, refl}
use Rattle.std.specs.Coded.{Coded, code_by, coded×, coded_ℕ, coded_list}
use Rattle.std.specs.FinMap as map
use Rattle.std.specs.Option.{option_map, option_map_or}
use Rattle.agc_text.specs.Tables.{value_in}
use Rattle.agc_text.specs.Views.{piece}
use Rattle.agc_text.specs.declared.fields.Field.{Field}
use Rattle.agc_text.specs.declared.fields.Line.{Line}
use Rattle.rope.specs.Places.{Words, stands}
use Rattle.space.specs.declared.place.Linear.TheVariants as linear
use Rattle.symbols.specs.contracts.values.Value as value
use Rattle.symbols.specs.declared.values.Value.{Value}
use Rattle.symbols.specs.declared.values.Value.TheVariants.{Num, Erasable, Fixed}
use Rattle.yayul.specs.Forms.{operation_of}
use Rattle.yayul.specs.Flight.{flight_operation_of, flight_operator, scales_after}
use Rattle.yayul.specs.Language.{BadBank, BadOperand, BankRange, FaultKind, Is, Location, NoForm, Numeral, TooLarge, Undefined}
use Rattle.yayul.specs.Layout.{Promise, Request, Layout, word_place, after_words, statement_on, line_effect}
use Rattle.yayul.specs.Listing.{LineText, Shown, nothing, shown}
use Rattle.yayul.specs.Operators.{operators, is_bank}
use Rattle.yayul.specs.Program.{Source, Program}
use Rattle.yayul.specs.contracts.language.Language as language
use Rattle.yayul.specs.declared.language.Language.{Language}
use Rattle.yayul.specs.declared.language.Operation.{Operation}
use Rattle.yayul.specs.declared.language.Operation.TheVariants.{Nothing}
use Rattle.yayul.specs.declared.mark.Mark.{Mark}
use Rattle.yayul.specs.declared.mark.Mark.TheVariants as mark
use Rattle.yayul.specs.declared.request.Promise.{Promise as StoredPromise}
use Rattle.yayul.specs.declared.request.WordRequest.{WordRequest}
use Rattle.yayul.specs.declared.values.Point.{Point}
use Rattle.yayul.specs.declared.values.Point.TheVariants as point
use Rattle.yayul.specs.declared.word.LineWords.{LineWords}
use Rattle.yayul.specs.declared.word.LineWords.TheVariants.{One, Two}

-- the text of a field, where it stands
abbrev pub text_of : Option Field → Option (List ℕ)
text_of field = option_map (λ f. f.text.now) field

-- a field, where it stands, and those after it
abbrev pub followed_by : Option (List ℕ) → List (List ℕ) → List (List ℕ)
followed_by None rest = []
followed_by (Some text) rest = text ∷ rest

-- the fields after the operator, with an empty one for all that follow the offset
abbrev pub arguments_of : Line → List (List ℕ)
arguments_of l = followed_by (text_of l.operand) (followed_by (text_of l.offset) (if l.more then [] ∷ [] else []))

-- what the fields besides the label say
abbrev pub operation_by : Line → Operation
operation_by l = option_map_or (λ f. operation_of (value_in operators f.text.now) (arguments_of l)) l.operator Nothing

-- the same in the language of flight programs, where the line stands at a location
abbrev pub flight_operation_by : Location → List ℕ → Line → Operation
flight_operation_by here text l =
    option_map_or (λ f. flight_operation_of here (scales_after text (option_map piece l.operand)) (flight_operator f.text.now)
    (arguments_of l)) l.operator Nothing

-- the value of a kind and a number, which may be past the last of its kind
abbrev pub value_at : Point → Value
value_at (point.Num n) = Num n
value_at (point.Erasable n) = Erasable n
value_at (point.Fixed bank n) = Fixed bank n

-- a request as it is stored
abbrev pub request_of : WordRequest → Request
request_of r = record { line = r.line; bank = r.bank; offset = r.offset; content = r.content; extracode = r.extracode; eb = r.eb }

-- a promise as it is stored
abbrev pub promise_of : StoredPromise → Promise
promise_of p = record { line = p.line; name = p.name.items; operand = p.operand }

-- one or two words, in order
abbrev pub words_in : LineWords → List ℕ
words_in (One word) = word ∷ []
words_in (Two first second) = first ∷ second ∷ []

-- a word of a line names a symbol that is not defined
abbrev pub is_undefined : Result (List ℕ) FaultKind → Bool
is_undefined (Err Undefined) = true
is_undefined _ = false

-- a word stands at a location
abbrev pub holds_word_at : Words → Location → Bool
holds_word_at words here = option_map_or (λ place. stands words place.0 place.1) (word_place here) false

-- a word stands where the first of so many would, or the second where there are two
abbrev pub holds_word : Words → Location → ℕ → Bool
holds_word words here count = holds_word_at words here || (nat_lt 1 count && holds_word_at words (after_words 1 here))

-- the location past the words of a bank that the operator takes, by the ends of all banks
abbrev pub bank_target_by : List ℕ → BankRange → Numeral → Result Location FaultKind
bank_target_by ends taken NoForm = Err BadOperand
bank_target_by ends taken TooLarge = Err BadBank
bank_target_by ends taken (Is n) = if is_bank taken n then Ok (Location.Fixed n (get_or ends n 0)) else Err BadBank

-- what a mark shows
abbrev pub shown_by_mark : Mark → Shown
shown_by_mark mark.Nothing = nothing
shown_by_mark (mark.Erasable n) = record { place = Some (linear.Erasable n); words = [] }
shown_by_mark (mark.Fixed bank n) = record { place = Some (linear.Fixed bank n); words = [] }
shown_by_mark (mark.Word bank n) = record { place = None; words = (bank, n) ∷ [] }
shown_by_mark (mark.Words bank n second) = record { place = None; words = (bank, n) ∷ (bank, second) ∷ [] }

-- what each of some lines shows, the first of them with a number and what stands before it
abbrev pub lines_show : ℕ → Layout → List (List ℕ) → List Shown
lines_show line s [] = []
lines_show line s (text ∷ texts) = shown s.location (statement_on s text) ∷ lines_show (line + 1) (line_effect line s text).after texts

-- the rows of some lines, the first of them with a number, and each with what it shows
abbrev pub rows_of : LineText → ℕ → Words → List (List ℕ) → List Shown → List ℕ
rows_of of_line line words [] shows = []
rows_of of_line line words (text ∷ texts) [] = []
rows_of of_line line words (text ∷ texts) (shown ∷ shows) = of_line line words text shown ++ rows_of of_line (line + 1) words texts shows

-- a source is stored as its fields, paired
abbrev pub source_code : Coded Source
source_code =
    code_by (Language × List ℕ) (coded× language.the_row.coded (coded_list coded_ℕ))
    (λ s. (s.language, s.text)) (λ s. record { language = s.0; text = s.1 }) (λ _. refl)

-- a program is stored as its fields, paired
abbrev pub program_code : Coded Program
program_code =
    code_by (Words × (List (List ℕ × Value) × Source))
    (coded× (map.code coded_ℕ coded_ℕ) (coded× (coded_list (coded× (coded_list coded_ℕ) value.the_row.coded)) source_code))
    (λ p. (p.rope, (p.symbols, p.source))) (λ p. record { rope = p.0; symbols = p.1.0; source = p.1.1 }) (λ _. refl)
