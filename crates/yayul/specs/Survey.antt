-- All faults of a source: what each line is refused for, where on the line, and what is left out since it follows from an earlier fault.
use Rattle.std.specs.Prelude.{ℕ, ◌+◌, ◌-◌, ◌==◌, ◌&&◌, ◌||◌, not, nat_le, nat_lt, Bool, true, false, List, [], ◌∷◌, ◌++◌, length, map}
use Rattle.std.specs.Prelude.{filter, take, Option, None, Some, is_some, slice_get, if◌then◌else◌}
use Rattle.std.specs.List.{find, list_any, list_all, position_or_len}
use Rattle.std.specs.Option.{option_map, option_map_or, option_or, unwrap_or}
use Rattle.agc_text.specs.Bytes.{line_length, is_text_byte}
use Rattle.agc_text.specs.Fields.{Piece, fields, label_of, others_of}
use Rattle.agc_text.specs.Lines.{lines}
use Rattle.agc_text.specs.Tables.{value_in}
use Rattle.yayul.specs.Flight.{most_lines, measured, uncounted}
use Rattle.yayul.specs.Layout.{Request, Layout, start, width, stands_at, word_place, after_words, fault_if, standing, text_faults}
use Rattle.yayul.specs.Layout.{fault_number, statement_on, statement_effect, extends}
use Rattle.yayul.specs.Later.{waiting_kind, with_values}
use Rattle.yayul.specs.Mended.{lacks_form, lacks_operand, mended}
use Rattle.yayul.specs.Words.{content_words, extracode_of, extracode_fault}
use Rattle.std.specs.Result.{result_err}
use Rattle.yayul.specs.Language.{Addressed, BadBank, BadLabel, BadOperand, Bank, BankFull, BankWord, CodeInErasable, Complemented, Content}
use Rattle.yayul.specs.Language.{Ebank, Equals, Erase, FarAddress, FarComplement, FaultKind, Fixed, Flight, Gives, Label, Language}
use Rattle.yayul.specs.Language.{Location, LongLine, Malformed, Missing, Named, NeedsExtend, NotAscii, NoMemory, NotExtracode, Num, Operand}
use Rattle.yayul.specs.Language.{Operation, OutOfRange, PlaceTaken, Setloc, Standard, Term, TooManyLines, TwiceDefined, Undefined, Unknown}
use Rattle.yayul.specs.Language.{UnknownOperator, UsedTooEarly, Value, WrongKindOfAddress}
use Rattle.yayul.specs.declared.finding.Span.{Span}
use Rattle.yayul.specs.declared.finding.Finding.{Finding}
use Rattle.yayul.specs.declared.doubt.Known.{Known}
use Rattle.yayul.specs.declared.doubt.Doubt.{Doubt}

-- ## Where a fault stands on its line
-- the place of the first byte that a line may not hold, or its length
abbrev pub wrong_place : List ℕ → ℕ
wrong_place text = position_or_len (λ byte. not (is_text_byte byte)) text

abbrev pub span_of : Piece → Span
span_of p = record { start = p.start; width = length p.text }

-- from the first byte of a field to the last of a later one
abbrev pub through : Piece → Piece → Span
through first last = record { start = first.start; width = last.start + length last.text - first.start }

-- the first of two fields that stands, else the whole line
abbrev pub first_of : List ℕ → Option Piece → Option Piece → Span
first_of text (Some p) other = span_of p
first_of text None (Some p) = span_of p
first_of text None None = record { start = 0; width = length text }

-- the operand, up to the offset where one stands; else the operator
abbrev pub operand_span : List ℕ → Option Piece → Option Piece → Option Piece → Span
operand_span text operator (Some operand) (Some offset) = through operand offset
operand_span text operator operand offset = first_of text operand operator

-- the field that is so many after the label
abbrev pub field_at : List ℕ → ℕ → Option Piece
field_at text n = slice_get (others_of (fields text)) n

-- the bytes of a line that are to blame for a fault: the label for its own, the operand, with its offset where this may be to blame, for
-- those of an operand, the operator for all others; and for a field that is missing the one that asks for it
unfoldable pub span_at : List ℕ → FaultKind → Span
span_at text NotAscii = record { start = wrong_place text; width = 1 }
span_at text LongLine = record { start = line_length; width = length text - line_length }
span_at text BadLabel = first_of text (label_of (fields text)) (field_at text 0)
span_at text TwiceDefined = first_of text (label_of (fields text)) (field_at text 0)
span_at text Undefined = first_of text (field_at text 1) (field_at text 0)
span_at text UsedTooEarly = first_of text (field_at text 1) (field_at text 0)
span_at text BadBank = first_of text (field_at text 1) (field_at text 0)
span_at text BadOperand = operand_span text (field_at text 0) (field_at text 1) (field_at text 2)
span_at text WrongKindOfAddress = operand_span text (field_at text 0) (field_at text 1) (field_at text 2)
span_at text OutOfRange = operand_span text (field_at text 0) (field_at text 1) (field_at text 2)
span_at text _ = first_of text (field_at text 0) (label_of (fields text))

-- some bytes so many later, within so many
abbrev pub later : ℕ → ℕ → Span → Span
later most count span = record { start = if nat_le (count + span.start) most then count + span.start else most; width = span.width }

-- the same in a language: on a line with a count the fields after it
unfoldable pub span_in : Language → List ℕ → FaultKind → Span
span_in Standard text kind = span_at text kind
span_in Flight text LongLine = record { start = line_length; width = length (measured Flight text) - line_length }
span_in Flight text kind = later (length text) (length text - length (uncounted text)) (span_at (uncounted text) kind)

-- some fault stands
abbrev pub some_stands : List FaultKind → Bool
some_stands [] = false
some_stands (kind ∷ kinds) = true

-- ## What stands before a line
-- what stands before a line: the layout, in which a line with a fault does what is sure of it; the names that lines with a fault have as
-- labels, with values of no account; and what is known
pub record Survey : Type 0 where
  pub layout : Layout
  pub lost : List (List ℕ × Value)
  pub known : Known

-- before the first line all is known
abbrev pub unmarked : Language → Survey
unmarked language = record {
  layout = start language;
  lost = [];
  known = record
      { location = true; banks = true; extracode = true; wrong = None };
}

-- a name stands in a table
abbrev pub stands_in : List (List ℕ × Value) → List ℕ → Bool
stands_in table name = is_some (value_in table name)

-- a label that has no value
abbrev pub noted : List (List ℕ × Value) → Label → List (List ℕ × Value)
noted lost (Named name) = if stands_in lost name then lost else lost ++ (name, Num 0) ∷ []
noted lost Missing = lost
noted lost Malformed = lost

-- the location, where it is not known: a fixed place of no account
abbrev pub nowhere : Location
nowhere = Location.Fixed 2 0

-- ## What a line says
-- what a line says, where an operand that has no form, of an operator that gives words, is one of no account
abbrev pub operation_on : Layout → List ℕ → Operation
operation_on s text = mended s.language text (statement_on s text).operation

-- the operand of words, or of a line, where one stands
abbrev pub content_operand : Content → Option Operand
content_operand (Addressed i operand) = Some operand
content_operand (FarAddress operand) = Some operand
content_operand (Complemented i operand) = Some operand
content_operand (FarComplement operand) = Some operand
content_operand (BankWord operand) = Some operand
content_operand _ = None

abbrev pub operand_of : Operation → Option Operand
operand_of (Setloc operand) = operand
operand_of (Equals operand) = operand
operand_of (Ebank operand) = operand
operand_of (Gives (Some content)) = content_operand content
operand_of _ = None

-- a term is one of some symbols
abbrev pub is_among : List (List ℕ × Value) → Term → Bool
is_among table (Term.Named name) = stands_in table name
is_among table _ = false

-- an operand names one of some symbols, where it stands
abbrev pub names_one : List (List ℕ × Value) → Operation → Bool
names_one table operation = option_map_or (λ operand. is_among table operand.term) (operand_of operation) false

abbrev pub is_here : Term → Bool
is_here Term.Here = true
is_here _ = false

-- an operand counts from its own line
abbrev pub counts_from_here : Operation → Bool
counts_from_here operation = option_map_or (λ operand. is_here operand.term) (operand_of operation) false

-- ## What is known
-- a fault of a label, whatever the line does besides
abbrev pub is_of_label : FaultKind → Bool
is_of_label BadLabel = true
is_of_label TwiceDefined = true
is_of_label _ = false

-- all is known that a line rests on: where words stand, and for BANK those of its bank, for BANK without an operand in which bank
abbrev pub rests_on_known : Known → Bool → Operation → Bool
rests_on_known known alone (Setloc operand) = known.location || not (counts_from_here (Setloc operand))
rests_on_known known alone (Bank taken number) = known.banks && (known.location || not alone)
rests_on_known known alone (Equals operand) = known.location || not (counts_from_here (Equals operand))
rests_on_known known alone (Ebank operand) = known.location || not (counts_from_here (Ebank operand))
rests_on_known known alone _ = known.location

-- a line does what it says: all is known that it rests on, and it has no layout fault but those of its label
abbrev pub is_done : Known → Bool → Operation → List FaultKind → Bool
is_done known alone operation kinds = list_all is_of_label kinds && rests_on_known known alone operation

-- its label has its value
abbrev pub is_kept : Bool → List FaultKind → Bool
is_kept done kinds = done && not (list_any is_of_label kinds)

-- the location is known after a line that is done or is not: EQUALS and EBANK= leave it as it is
abbrev pub location_known : Bool → Bool → Operation → Bool
location_known before done (Equals operand) = before
location_known before done (Ebank operand) = before
location_known before done _ = done

-- a line gives words, or may
abbrev pub may_give : Operation → Bool
may_give Unknown = true
may_give (Gives content) = true
may_give _ = false

-- extracode is known after a line: not after an operator that is not known, and again after words that leave it the same whatever it was
abbrev pub extracode_known : Bool → Operation → Bool
extracode_known before Unknown = false
extracode_known before (Gives None) = false
extracode_known before (Gives (Some content)) = before || not (extends content true)
extracode_known before _ = before

-- the first byte of a line that it may not hold
abbrev pub wrong_byte : List ℕ → Option ℕ
wrong_byte text = slice_get text (wrong_place text)

-- what is known after a line
abbrev pub known_after : Known → List ℕ → Operation → Bool → Known
known_after known text operation done = record {
  location = location_known known.location done operation;
  banks = known.banks && (done || not (may_give operation));
  extracode = extracode_known known.extracode operation;
  wrong = option_or (wrong_byte text) known.wrong;
}

-- ## What stands after a line
-- an operator that takes no label
abbrev pub is_bare : Operation → Bool
is_bare (Setloc operand) = true
is_bare (Bank taken number) = true
is_bare (Ebank operand) = true
is_bare _ = false

-- a label that is not kept has no value; where the operator takes one, it may not stand again
abbrev pub label_lost : Survey → Label → Operation → Survey
label_lost s label operation = record {
  layout = if is_bare operation then s.layout else record s.layout { promised = noted s.layout.promised label };
  lost = noted s.lost label;
  known = s.known;
}

abbrev pub label_passed : Bool → Survey → Label → Operation → Survey
label_passed kept s label operation = if kept then s else label_lost s label operation

-- a line with a label, or without one
abbrev pub kept_label : Bool → Label → Label
kept_label kept label = if kept then label else Missing

-- what a line says is done, where it has no fault
abbrev pub laid : ℕ → Survey → Label → Operation → Survey
laid line s label operation = record s {
  layout = if some_stands (statement_effect line s.layout label operation).faults then s.layout else
      (statement_effect line s.layout label operation).after;
}

-- extracode after words that stand nowhere
abbrev pub extracode_after : Operation → Bool → Bool
extracode_after (Gives (Some content)) extracode = extends content extracode
extracode_after _ extracode = extracode

abbrev pub passed_over : Survey → Operation → Survey
passed_over s operation = record s { layout = record s.layout { extracode = extracode_after operation s.layout.extracode } }

-- after a line that is done, or is not, with its label kept or not
abbrev pub done_line : ℕ → Survey → Label → Operation → Bool → Bool → Survey
done_line line s label operation done kept =
    if done then laid line (label_passed kept s label operation) (kept_label kept label) operation else passed_over
    (label_passed kept s label operation) operation

-- with what is known; the location, where it is not, is of no account
abbrev pub with_known : Survey → Known → Survey
with_known s known = record {
  layout = if known.location then s.layout else record s.layout { location = nowhere };
  lost = s.lost;
  known = known;
}

-- the layout faults of a line's fields
abbrev pub layout_kinds : ℕ → Layout → Label → Operation → List FaultKind
layout_kinds line s label operation = (statement_effect line s label operation).faults

-- what stands after a line that says this, and has these layout faults
abbrev pub said_passed : ℕ → Survey → List ℕ → Label → Operation → Bool → List FaultKind → Survey
said_passed line s text label operation done kinds = with_known (done_line line s label operation done (is_kept done kinds))
    (known_after s.known text operation done)

-- what stands after a line
unfoldable pub passed_line : ℕ → Survey → List ℕ → Survey
passed_line line s text =
    let label : Label = (statement_on s.layout text).label in
    let operation : Operation = operation_on s.layout text in
    let kinds : List FaultKind = layout_kinds line s.layout label operation in
    said_passed line s text label operation (is_done s.known (lacks_operand s.layout.language text) operation kinds) kinds

-- what stands after some lines, the first of them with a number
abbrev pub passed_lines : ℕ → Survey → List (List ℕ) → Survey
passed_lines line s [] = s
passed_lines line s (text ∷ texts) = passed_lines (line + 1) (passed_line line s text) texts

-- the same with the values of the names that wait
abbrev pub settled_survey : Survey → Survey
settled_survey s = record s { layout = with_values s.layout }

-- ## What is told of a line
-- where the words of a line stand, else a place of no account
abbrev pub place_of_words : Location → ℕ × ℕ
place_of_words here = unwrap_or (word_place here) (2, 0)

-- the word faults of a line: of the words that it gives where a layout stands, by the symbols of the whole source
abbrev pub content_kinds : List (List ℕ × Value) → Layout → Content → List FaultKind
content_kinds table s content =
    standing (result_err (content_words table (Fixed (place_of_words s.location).0 (place_of_words s.location).1) s.extracode s.eb content)
    ∷ extracode_fault (extracode_of content) s.extracode ∷ [])

-- the same of words whose operand has no form
abbrev pub formless_kinds : Layout → Content → List FaultKind
formless_kinds s content = standing (extracode_fault (extracode_of content) s.extracode ∷ [])

abbrev pub word_kinds : List (List ℕ × Value) → Layout → Bool → Operation → List FaultKind
word_kinds table s formless (Gives (Some content)) = if formless then formless_kinds s content else content_kinds table s content
word_kinds table s formless _ = []

-- the line of the first of some requests that stands at a place
abbrev pub word_line : List Request → ℕ → ℕ → Option ℕ
word_line requests bank offset = option_map (λ r. r.line) (find (stands_at bank offset) requests)

-- the line whose word stands at a location already
abbrev pub line_at : Layout → Location → Option ℕ
line_at s here = option_map_or (λ place. word_line s.requests place.0 place.1) (word_place here) None

-- the line whose word stands already where the first of so many would, else the second where there are two
abbrev pub taken_from : Layout → ℕ → Option ℕ
taken_from s count = option_or (line_at s s.location) (if nat_lt 1 count then line_at s (after_words 1 s.location) else None)

-- the line whose word stands already where those of another would
abbrev pub taken_by : Layout → Operation → Option ℕ
taken_by s (Gives (Some content)) = taken_from s (width content)
taken_by s _ = None

abbrev pub erases : Operation → Bool
erases (Erase count) = true
erases _ = false

-- a byte that a line may not hold is the one that was told last
abbrev pub is_same_byte : Option ℕ → Option ℕ → Bool
is_same_byte (Some a) (Some b) = a == b
is_same_byte _ _ = false

-- a symbol waits, and comes to no value
abbrev pub waits_in_vain : List (List ℕ × Value) → List (List ℕ × Value) → Operation → Bool
waits_in_vain promised table operation = names_one promised operation && not (names_one table operation)

-- what follows from other faults, on a line where a survey stands, and where one stands after the last line
abbrev pub doubt : Survey → Survey → List ℕ → Operation → Doubt
doubt whole s text operation = record {
  bytes = not (list_all is_text_byte text);
  repeated = is_same_byte (wrong_byte text) s.known.wrong;
  location = not s.known.location;
  erased = erases operation && not s.known.location;
  counted = counts_from_here operation && not s.known.location;
  symbol = names_one whole.lost operation || waits_in_vain whole.layout.promised whole.layout.symbols operation;
  early = names_one s.lost operation;
  extracode = not s.known.extracode;
}

-- a fault of a line that holds text alone follows from another: of where words stand, and of an operand that counts from its line, once
-- that is not known; of a symbol whose own line has a fault or comes to no value, for E18 an earlier one with a fault; of extracode, once
-- that is not known
abbrev pub follows_other : Doubt → FaultKind → Bool
follows_other d BankFull = d.location
follows_other d PlaceTaken = d.location
follows_other d CodeInErasable = d.location
follows_other d WrongKindOfAddress = d.erased || d.counted
follows_other d OutOfRange = d.counted
follows_other d Undefined = d.symbol
follows_other d UsedTooEarly = d.early
follows_other d NeedsExtend = d.extracode
follows_other d NotExtracode = d.extracode
follows_other d _ = false

-- a fault follows from another: where its line holds a byte that it may not from this, and this where it is the one that was told last
abbrev pub follows : Doubt → FaultKind → Bool
follows d NotAscii = d.repeated
follows d kind = d.bytes || follows_other d kind

-- the kinds of faults in the order in which those of a line are told: at the label, the operator and the operand, and beyond them; want of
-- memory stands on no line
abbrev pub kinds_in_order : List FaultKind
kinds_in_order =
    BadLabel ∷ TwiceDefined ∷ NotAscii ∷ TooManyLines ∷ UnknownOperator ∷ BankFull ∷ PlaceTaken ∷ CodeInErasable ∷ NeedsExtend
    ∷ NotExtracode
    ∷ BadOperand ∷ Undefined ∷ UsedTooEarly ∷ BadBank ∷ WrongKindOfAddress ∷ OutOfRange ∷ LongLine ∷ NoMemory ∷ []

-- a fault stands past the longest line
abbrev pub is_beyond : Language → List ℕ → FaultKind → Bool
is_beyond language text kind = nat_lt line_length (span_in language text kind).start

-- the kinds in the order of their columns on a line: those that stand past its longest are told last
abbrev pub kinds_on : Language → List ℕ → List FaultKind
kinds_on language text = filter (λ kind. not (is_beyond language text kind)) kinds_in_order
    ++ filter (is_beyond language text) kinds_in_order

-- a kind is one of some
abbrev pub is_one_of : List FaultKind → FaultKind → Bool
is_one_of kinds kind = list_any (λ other. fault_number other == fault_number kind) kinds

-- the line that a fault names: of a place that is taken that whose word stands there
abbrev pub named_line : Option ℕ → FaultKind → Option ℕ
named_line taken PlaceTaken = taken
named_line taken _ = None

-- a fault with its place, on a line whose place another may have taken
abbrev pub finding : Language → ℕ → List ℕ → Option ℕ → FaultKind → Finding
finding language line text taken kind = record
    { line = line; kind = kind; span = span_in language text kind; taken_by = named_line taken kind }

-- those of some faults that do not follow from others, each once
abbrev pub told_of : Language → Doubt → ℕ → List ℕ → Option ℕ → List FaultKind → List Finding
told_of language d line text taken kinds = map (finding language line text taken)
    (filter (λ kind. is_one_of kinds kind && not (follows d kind)) (kinds_on language text))

-- a fault of an operand's form
abbrev pub form_kinds : Bool → List FaultKind
form_kinds formless = standing (fault_if formless BadOperand ∷ [])

-- what is wrong with a name that a line lets wait, unless that follows from another fault: its symbol is lost, or waits in vain on an
-- earlier line
abbrev pub vain_kind : Survey → Survey → Label → Operation → Option FaultKind
vain_kind whole s label operation =
    if names_one whole.lost operation || waits_in_vain s.layout.promised whole.layout.symbols operation then None
    else waiting_kind whole.layout.symbols s.layout label operation

-- the faults of a line where a survey stands, which says this: of its bytes, its length and its number, of its fields, of a name that
-- waits, and of its words
abbrev pub said_kinds : Survey → ℕ → Survey → List ℕ → Label → Bool → Operation → List FaultKind
said_kinds whole line s text label formless operation =
    text_faults s.layout.language line text ++ form_kinds formless ++ layout_kinds line s.layout label operation
    ++ standing (vain_kind whole s label operation ∷ []) ++ word_kinds whole.layout.symbols s.layout formless operation

abbrev pub line_kinds : Survey → ℕ → Survey → List ℕ → List FaultKind
line_kinds whole line s text =
    said_kinds whole line s text (statement_on s.layout text).label (lacks_form (statement_on s.layout text).operation)
    (operation_on s.layout text)

-- what is told of a line, where this stands before it, and this after the last line
abbrev pub told_line : Survey → ℕ → Survey → List ℕ → List Finding
told_line whole line s text =
    told_of s.layout.language (doubt whole s text (operation_on s.layout text)) line text (taken_by s.layout (operation_on s.layout text))
    (line_kinds whole line s text)

-- what is told of some lines
abbrev pub told_lines : Survey → ℕ → Survey → List (List ℕ) → List Finding
told_lines whole line s [] = []
told_lines whole line s (text ∷ texts) = told_line whole line s text ++ told_lines whole (line + 1) (passed_line line s text) texts

-- the lines that are looked at: as many as a source may have, and one
abbrev pub looked_at : Language → List ℕ → List (List ℕ)
looked_at language source = take (most_lines language + 1) (lines source)

-- what is told of a source
unfoldable pub told : Language → List ℕ → List Finding
told language source = told_lines (settled_survey (passed_lines 1 (unmarked language) (looked_at language source))) 1 (unmarked language)
    (looked_at language source)

-- ## Symbols
-- the symbols of a source and their values, those that waited among them: of lines without a fault, and of places that are known
unfoldable pub known_symbols : Language → List ℕ → List (List ℕ × Value)
known_symbols language source =
    (settled_survey (passed_lines 1 (unmarked language) (looked_at language source))).layout.symbols
