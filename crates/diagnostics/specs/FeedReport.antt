-- The first fault of a feed as lines of text.
use Rattle.std.specs.Prelude.{ℕ, ◌+◌, ◌-◌, ◌==◌, ◌&&◌, not, Bool, nat_lt, List, [], ◌∷◌, ◌++◌, length, codes, decimal, Option, Some, None}
use Rattle.std.specs.Prelude.{Result, Ok, Err, slice_get, if◌then◌else◌}
use Rattle.std.specs.List.{list_all}
use Rattle.std.specs.Option.{option_map_or}
use Rattle.agc_text.specs.Bytes.{is_text_byte, line_length}
use Rattle.agc_text.specs.Fields.{fields, texts}
use Rattle.agc_text.specs.Lines.{lines}
use Rattle.feed.specs.Feed.{inputs}
use Rattle.feed.specs.Slips.{line_slip}
use Rattle.feed.specs.declared.entry.Entry.{Entry}
use Rattle.feed.specs.declared.fault.FeedFault.{FeedFault}
use Rattle.feed.specs.declared.slip.Slip.{Slip}
use Rattle.feed.specs.declared.fault.FeedFault.TheVariants.{NoMemory, ReadFailed, BadLine, OutOfOrder, TooMany, WrongCounter, TooLong}
use Rattle.feed.specs.declared.fault.FeedFault.TheVariants.{TooManySeries}
use Rattle.yayul.specs.Survey.{span_of, wrong_place}
use Rattle.yayul.specs.declared.finding.Span.{Span}
use Rattle.yayul.specs.Readings.{Parts, parts_for}
use Rattle.diagnostics.specs.Causes.{Cause, byte_cause, cured, long_cause, said}
use Rattle.warnings.specs.Fields.{text_of}
use Rattle.json_text.specs.declared.notation.Notation.{Notation}
use Rattle.yayul.specs.declared.language.Language.TheVariants.{Standard}
use Rattle.diagnostics.specs.Objects.{Place, place_of}
use Rattle.diagnostics.specs.Kinds.{is_input, kind_of_feed}
use Rattle.explain.specs.Refusals.{meaning}
use Rattle.diagnostics.specs.Report.{text_at, told_in}
use Rattle.diagnostics.specs.FeedCauses.{slip_cause}
use Rattle.diagnostics.specs.declared.told.Severity.{Severity}

-- ## The line of a fault
-- what is told of a line: where on it, what stands for `~`, and why
pub record Wrong : Type 0 where
  pub span : Span
  pub beside : List ℕ
  pub cause : Cause

-- the field of a line that is so many after the first; the whole line where it does not stand
abbrev pub field_span : List ℕ → ℕ → Span
field_span text place = option_map_or span_of (slice_get (fields text) place) (record { start = 0; width = length text })

-- a line that is wrong at one of its fields
abbrev pub wrong_field : List ℕ → ℕ → Cause → Wrong
wrong_field text place cause = record { span = field_span text place; beside = text_of (slice_get (fields text) place); cause = cause }

-- a line that is refused at one of its fields
abbrev pub slipped : List ℕ → Slip → Wrong
slipped text slip = wrong_field text slip.field (slip_cause slip.why (text_of (slice_get (fields text) slip.field)))

-- a line that is no input and no series, or whose counter does not take the sequence
abbrev pub wrong_line : List ℕ → Wrong
wrong_line text =
    if not (list_all is_text_byte text) then record
    { span = record { start = wrong_place text; width = 1 }; beside = []; cause = byte_cause text (wrong_place text) }
    else if nat_lt line_length (length text) then record
    { span = record { start = line_length; width = length text - line_length }; beside = []; cause = long_cause text }
    else slipped text (line_slip (texts (fields text)))

-- an input stands on a line of a number before another
abbrev pub is_earlier_input : ℕ → ℕ → List ℕ → Bool
is_earlier_input line end text = nat_lt line end && is_input text

-- the number of the last line with an input before another, of some lines the first of which has a number; else a number that is told so
-- far
abbrev pub last_before : ℕ → ℕ → ℕ → List (List ℕ) → ℕ
last_before end line last [] = last
last_before end line last (text ∷ texts) = last_before end (line + 1) (if is_earlier_input line end text then line else last) texts

-- the number of the line with the input that so many others stand before, of some lines the first of which has a number
abbrev pub line_of_input : ℕ → ℕ → List (List ℕ) → ℕ
line_of_input left line [] = line
line_of_input left line (text ∷ texts) =
    if not (is_input text) then line_of_input left (line + 1) texts
    else if left == 0 then line
    else line_of_input (left - 1) (line + 1) texts

-- a line whose cycle is below that of an earlier one, the number of which has some digits
abbrev pub early_line : List ℕ → List ℕ → Wrong
early_line text digits = record {
  span = field_span text 0;
  beside = digits;
  cause = cured (codes "the cycle is below that of the input before it, on line ~")
      (codes "inputs stand in the order of their cycles, and EVERY anywhere");
}

abbrev pub early : List (List ℕ) → ℕ → Wrong
early texts line = early_line (text_at texts line) (decimal (last_before line 1 0 texts))

-- the line with an input before it
abbrev pub earlier_place : List (List ℕ) → ℕ → Place
earlier_place texts line = place_of Standard texts (last_before line 1 0 texts)

-- the lines of a fault of a number on a line, which has a number too and some fields
unfoldable pub wrong_at : Notation → List ℕ → List ℕ → Parts → ℕ → ℕ → Wrong → Option Place → List ℕ
wrong_at notation name text parts line number wrong other =
    told_in notation name text parts wrong.beside other
    (record { severity = Severity.Error; number = number; line = line; span = wrong.span }) wrong.cause

abbrev pub wrong_text : Notation → List ℕ → List (List ℕ) → ℕ → ℕ → Wrong → Option Place → List ℕ
wrong_text notation name texts line number wrong other = wrong_at notation name (text_at texts line)
    (parts_for Standard (text_at texts line)) line number wrong other

-- the line that has one input too many
abbrev pub surplus_line : List (List ℕ) → ℕ
surplus_line texts = line_of_input 65536 1 texts

-- the lines of a fault of a feed; want of memory, and a feed that is too long, are told elsewhere
abbrev pub fault_text : Notation → List ℕ → List (List ℕ) → FeedFault → List ℕ
fault_text notation name texts NoMemory = []
fault_text notation name texts ReadFailed = []
fault_text notation name texts TooLong = []
fault_text notation name texts (BadLine line) = wrong_text notation name texts line 30 (wrong_line (text_at texts line)) None
fault_text notation name texts (OutOfOrder line) = wrong_text notation name texts line 31 (early texts line)
    (Some (earlier_place texts line))
fault_text notation name texts TooMany = wrong_text notation name texts (surplus_line texts) 32
    (wrong_field (text_at texts (surplus_line texts)) 0 (said (meaning 32))) None
fault_text notation name texts (WrongCounter line) = wrong_text notation name texts line 33 (wrong_line (text_at texts line)) None
fault_text notation name texts (TooManySeries line) = wrong_text notation name texts line 35
    (wrong_field (text_at texts line) 0 (said (meaning 35))) None

-- ## A feed
-- the first fault of a feed
abbrev pub fault_of : Result (List Entry) FeedFault → Option FeedFault
fault_of (Ok is) = None
fault_of (Err fault) = Some fault

-- what is told of a feed: its first fault, and that it is of another kind; nothing of one without a fault
unfoldable pub feed_report : Notation → List ℕ → List ℕ → List ℕ
feed_report notation name text = option_map_or (λ fault. fault_text notation name (lines text) fault ++ kind_of_feed notation name text)
    (fault_of (inputs text)) []

-- how many faults are told of a feed
unfoldable pub feed_faults : List ℕ → ℕ
feed_faults text = option_map_or (λ fault. 1) (fault_of (inputs text)) 0
