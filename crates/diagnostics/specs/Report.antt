-- The faults and the warnings of a source as lines of text.
use Rattle.std.specs.Prelude.{ℕ, ◌+◌, ◌-◌, ◌==◌, ◌&&◌, not, List, [], ◌∷◌, ◌++◌, length, map, take, drop, max, min, replicate, codes}
use Rattle.std.specs.Prelude.{decimal, flat_map, nat_le, nat_lt, Bool, true, false, Option, Some, None, is_some, unwrap_or, if◌then◌else◌}
use Rattle.std.specs.List.{fold, position_or_len}
use Rattle.std.specs.Option.{option_map, option_map_or, option_or}
use Rattle.agc_text.specs.Bytes.{space, tab}
use Rattle.agc_text.specs.Lines.{lines}
use Rattle.agc_text.specs.Tables.{same_name}
use Rattle.json_text.specs.declared.notation.Notation.{Notation}
use Rattle.json_text.specs.declared.notation.Notation.TheVariants.{Text, Json}
use Rattle.yayul.specs.declared.faults.FaultKind.{FaultKind}
use Rattle.yayul.specs.declared.faults.FaultKind.TheVariants.{OutOfRange, TwiceDefined, UsedTooEarly, WrongKindOfAddress}
use Rattle.yayul.specs.Layout.{fault_number}
use Rattle.yayul.specs.declared.finding.Finding.{Finding}
use Rattle.yayul.specs.declared.language.Language.{Language}
use Rattle.yayul.specs.declared.language.Language.TheVariants.{Flight, Standard}
use Rattle.yayul.specs.Flight.{is_count}
use Rattle.yayul.specs.Forms.{is_digits}
use Rattle.warnings.specs.Roles.{is_equals, refuses_label}
use Rattle.yayul.specs.Readings.{Parts, parts_for}
use Rattle.diagnostics.specs.Causes.{Cause, below_cause, caution_cause, filled, holds, near_label, without_colon}
use Rattle.warnings.specs.Fields.{text_of}
use Rattle.diagnostics.specs.Kinds.{kind_of_source}
use Rattle.explain.specs.Refusals.{meaning}
use Rattle.diagnostics.specs.FlightCauses.{told_cause}
use Rattle.diagnostics.specs.Interpretive.{count_before_first, first_and_others, interpretive_cause}
use Rattle.diagnostics.specs.Objects.{Place, count_object, finding_object, place_of}
use Rattle.diagnostics.specs.Shown.{shown_byte}
pub use Rattle.diagnostics.specs.Shown.{text_at}
use Rattle.near_names.specs.Names.{is_among, with_field}
use Rattle.diagnostics.specs.declared.told.Severity.{Severity}
use Rattle.diagnostics.specs.declared.told.Told.{Told}
use Rattle.warnings.specs.Joined.{count_before}
use Rattle.warnings.specs.declared.told.Warning.{Warning}

-- a fault, as it is told
abbrev pub as_error : Finding → Told
as_error f = record { severity = Severity.Error; number = fault_number f.kind; line = f.line; span = f.span }

-- a warning, as it is told
abbrev pub as_warning : Warning → Told
as_warning w = record { severity = Severity.Warning; number = w.number; line = w.line; span = w.span }

-- what stands under a byte, so that what follows stands under what follows it
abbrev pub margin_byte : ℕ → ℕ
margin_byte byte = if byte == tab then tab else space

-- the number of a line, in five columns
abbrev pub numbered : ℕ → List ℕ
numbered line = replicate (5 - length (decimal line)) space ++ decimal line

-- how many bytes of a line are shown at most: as many as a line of a source may have
abbrev pub most_shown : ℕ
most_shown = 120

-- what is shown of a line
abbrev pub shown_part : List ℕ → List ℕ
shown_part text = take most_shown text

-- the line itself, with its number
abbrev pub row_text : List ℕ → Told → List ℕ
row_text text t = numbered t.line ++ codes " | " ++ map shown_byte text ++ codes "\n"

-- carets, where the fault stands
abbrev pub marks_text : List ℕ → Told → List ℕ
marks_text text t = codes "      | " ++ map margin_byte (take t.span.start text)
    ++ replicate (max 1 (min t.span.width (length text - t.span.start))) 0o136 ++ codes "\n"

-- where a fault of a file stands: file, line and column, which is at most the one after the last
abbrev pub place_text : List ℕ → List ℕ → Told → List ℕ
place_text name text t = name ++ codes ":" ++ decimal t.line ++ codes ":" ++ decimal (min t.span.start (length text) + 1)

-- what it is
abbrev pub kind_text : Severity → List ℕ
kind_text Severity.Error = codes ": error E"
kind_text Severity.Warning = codes ": warning W"

abbrev pub message_text : Parts → List ℕ → Told → Cause → List ℕ
message_text parts label t c =
    kind_text t.severity ++ decimal t.number ++ codes ": " ++ filled parts c.other label c.words ++ codes "\n"

-- that `--flight` takes what stands there, behind a cure or alone
abbrev pub flight_clause : Cause → List ℕ
flight_clause c = if not c.flight then [] else if length c.cure == 0 then codes "with --flight this is taken" else
    codes "; with --flight this is taken"

-- its cure, in a row of its own, where there is one
abbrev pub cure_text : Parts → List ℕ → Cause → List ℕ
cure_text parts label c = if length c.cure == 0 && not c.flight then [] else codes "      = " ++ filled parts c.other label c.cure
    ++ flight_clause c ++ codes "\n"

-- what is told of a line with why, and a text from other lines
abbrev pub caused_text : List ℕ → List ℕ → Parts → List ℕ → Told → Cause → List ℕ
caused_text name text parts label t c = place_text name text t ++ message_text parts label t c ++ row_text (shown_part text) t
    ++ marks_text (shown_part text) t ++ cure_text parts label c

-- the same in a notation, with the place that the text from other lines is from, where it is one
abbrev pub told_in : Notation → List ℕ → List ℕ → Parts → List ℕ → Option Place → Told → Cause → List ℕ
told_in Text name text parts beside other t c = caused_text name text parts beside t c
told_in Json name text parts beside other t c = finding_object name text parts beside other t c

-- a fault of a line with some fields, with a text from other lines or none
abbrev pub error_text : Notation → Language → List ℕ → List ℕ → Parts → Option (List ℕ) → Option Place → Finding → List ℕ
error_text notation language name text parts near other f =
    told_in notation name text parts (unwrap_or near []) other (as_error f)
    (without_colon (unwrap_or near []) parts (told_cause language (is_some near) text parts f))

-- a warning of a line with some fields
unfoldable pub warning_text : Notation → List ℕ → List ℕ → Parts → Warning → List ℕ
warning_text notation name text parts w = told_in notation name text parts [] None (as_warning w) (caution_cause parts w)

-- a line may have a label: its operator, if any, takes one
abbrev pub takes_label : Parts → Bool
takes_label parts = not (refuses_label parts.role)

-- a line has a label
abbrev pub has_label : Language → List ℕ → List ℕ → Bool
has_label language label text = same_name (text_of (parts_for language text).label) label && takes_label (parts_for language text)

-- the number of the first line that has a label
abbrev pub first_line : Language → List (List ℕ) → List ℕ → ℕ
first_line language texts label = position_or_len (has_label language label) texts + 1

-- a name, where it is a label
abbrev pub as_label : List (List ℕ) → List ℕ → Option (List ℕ)
as_label labels name = if is_among labels name then Some name else None

-- the label whose first line a fault is told with: its own where it stands twice, its operand where that is of the wrong kind or out of
-- range
abbrev pub told_by_line : List (List ℕ) → Parts → FaultKind → Option (List ℕ)
told_by_line labels parts TwiceDefined = as_label labels (text_of parts.label)
told_by_line labels parts WrongKindOfAddress = as_label labels (text_of parts.operand)
told_by_line labels parts OutOfRange = as_label labels (text_of parts.operand)
told_by_line labels parts _ = None

-- the line that a fault is told with: the one whose word stands already where its own would, or the first that has its label
abbrev pub line_beside : Language → List (List ℕ) → List (List ℕ) → Parts → Finding → Option ℕ
line_beside language labels texts parts f = option_or f.taken_by (option_map (first_line language texts) (told_by_line labels parts f.kind))

-- a text from other lines that a fault is told with: the number of a line, or the label that is near to its symbol
abbrev pub beside : Language → List (List ℕ) → List (List ℕ) → Parts → Finding → Option (List ℕ)
beside language labels texts parts f = option_map_or (λ line. Some (decimal line)) (line_beside language labels texts parts f)
    (near_label labels parts f.kind)

-- the lines of a fault of a line, with what it is told with from other lines
unfoldable pub beside_text : Notation → Language → List ℕ → List (List ℕ) → List (List ℕ) → List ℕ → Parts → Finding → List ℕ
beside_text notation language name labels texts text parts f =
    error_text notation language name text parts (beside language labels texts parts f)
    (option_map (place_of language texts) (line_beside language labels texts parts f)) f

-- a symbol needs its value on a line that names it: not on one of a flight source whose label may wait for that
abbrev pub needs_value : Language → Parts → Bool
needs_value Standard parts = true
needs_value Flight parts = not (is_equals parts.role)

-- a fault of a symbol that no earlier line defines
abbrev pub is_early : FaultKind → Bool
is_early UsedTooEarly = true
is_early _ = false

-- the first line that has the symbol of an E18 as its label, where that stands below
abbrev pub line_below : Language → List (List ℕ) → List (List ℕ) → Parts → Finding → Option ℕ
line_below language labels texts parts f =
    if is_early f.kind && needs_value language parts && is_among labels (text_of parts.operand)
    && nat_lt f.line (first_line language texts (text_of parts.operand))
    then Some (first_line language texts (text_of parts.operand)) else None

-- the lines of a fault of a line: an E18 names the line below that defines its symbol
unfoldable pub shown_line : Notation → Language → List ℕ → List (List ℕ) → List (List ℕ) → List ℕ → Parts → Finding → List ℕ
shown_line notation language name labels texts text parts f =
    option_map_or (λ line. told_in notation name text parts (decimal line) (Some (place_of language texts line)) (as_error f) below_cause)
    (line_below language labels texts parts f)
    (beside_text notation language name labels texts text parts f)

-- the lines of a fault of a source of a language
abbrev pub shown_error : Notation → Language → List ℕ → List (List ℕ) → List (List ℕ) → Finding → List ℕ
shown_error notation language name labels texts f = shown_line notation language name labels texts (text_at texts f.line)
    (parts_for language (text_at texts f.line)) f

-- the lines of a warning of a source of a language
abbrev pub shown_warning : Notation → Language → List ℕ → List (List ℕ) → Warning → List ℕ
shown_warning notation language name texts w = warning_text notation name (text_at texts w.line) (parts_for language (text_at texts w.line))
    w

-- a text may have a label's form: it is no number, alone or behind a sign, and holds no `$`
abbrev pub may_be_label : List ℕ → Bool
may_be_label text = not (is_digits text) && not (is_count text) && not (holds 0o44 text)

-- some names, and the label of a line, where the line may have one and that may have the form of one
abbrev pub with_label : List (List ℕ) → Parts → List (List ℕ)
with_label labels parts = if may_be_label (text_of parts.label) && takes_label parts then with_field labels parts.label else labels

-- the labels of some lines, each once
abbrev pub labels_of : Language → List (List ℕ) → List (List ℕ)
labels_of language texts = fold (λ labels text. with_label labels (parts_for language text)) [] texts

-- the labels that so many faults are told with: those of all lines, where 1 to 100 are told
abbrev pub sought_labels : Language → List (List ℕ) → ℕ → List (List ℕ)
sought_labels language texts count = if nat_le 1 count && nat_le count 100 then labels_of language texts else []

-- what is made of faults and of warnings, in the order of lines, the faults of a line first
abbrev pub merged : (Finding → List ℕ) → (Warning → List ℕ) → List Finding → List Warning → List ℕ
merged of_error of_warning [] warnings = flat_map of_warning warnings
merged of_error of_warning (f ∷ fs) warnings =
    flat_map of_warning (take (count_before f.line warnings) warnings) ++ of_error f
    ++ merged of_error of_warning fs (drop (count_before f.line warnings) warnings)

-- so many of something
abbrev pub counted : ℕ → List ℕ → List ℕ
counted count noun = decimal count ++ codes " " ++ noun ++ (if count == 1 then [] else codes "s")

-- how many there are, in a notation
abbrev pub count_text : Notation → ℕ → ℕ → List ℕ
count_text Json errors warnings = count_object errors warnings
count_text Text errors warnings = counted errors (codes "error") ++ codes ", " ++ counted warnings (codes "warning") ++ codes "\n"

-- a file that could not be read whole, by the number of why
abbrev pub refused_file : List ℕ → ℕ → List ℕ
refused_file name number = name ++ codes ": error E" ++ decimal number ++ codes ": " ++ meaning number ++ codes "\n"

-- ## All
-- the lines of some faults and warnings
abbrev pub listed : Notation → Language → List ℕ → List (List ℕ) → List (List ℕ) → List Finding → List Warning → List ℕ
listed notation language name labels texts faults warnings = merged (shown_error notation language name labels texts)
    (shown_warning notation language name texts) faults warnings

-- the lines of the first fault of the interpretive language, which stands for so many
abbrev pub interpretive_text : Notation → Language → List ℕ → List (List ℕ) → ℕ → Finding → List ℕ
interpretive_text notation language name texts count f =
    told_in notation name (text_at texts f.line) (parts_for language (text_at texts f.line)) (counted count (codes "line")) None
    (as_error f) interpretive_cause

-- how many of some warnings stand before the line of the first of some faults, all where there is none
abbrev pub warned_before : List Finding → List Warning → ℕ
warned_before [] warnings = length warnings
warned_before (f ∷ fs) warnings = count_before f.line warnings

-- the lines of faults and warnings, of which the first fault is of the interpretive language, and stands for so many
abbrev pub listed_from : Notation → Language → List ℕ → List (List ℕ) → List (List ℕ) → ℕ → List Finding → List Warning → List ℕ
listed_from notation language name labels texts count [] warnings = listed notation language name labels texts [] warnings
listed_from notation language name labels texts count (f ∷ fs) warnings = interpretive_text notation language name texts count f
    ++ listed notation language name labels texts fs warnings

-- the lines of some faults, of faults of which the first is of the interpretive language, and of warnings
abbrev pub listed_around : Notation → Language → List ℕ → List (List ℕ) → List (List ℕ) → ℕ → List Finding → List Finding → List Warning
    → List ℕ
listed_around notation language name labels texts count earlier rest warnings =
    listed notation language name labels texts earlier (take (warned_before rest warnings) warnings)
    ++ listed_from notation language name labels texts count rest (drop (warned_before rest warnings) warnings)

-- the same, where of all those faults the first stands for those of the interpretive language
abbrev pub told_around : Notation → Language → List ℕ → List (List ℕ) → List Finding → List Finding → List Warning → List ℕ
told_around notation language name texts earlier rest warnings =
    listed_around notation language name (sought_labels language texts (length earlier + length (first_and_others texts rest))) texts
    (length rest - length (first_and_others texts rest) + 1) earlier (first_and_others texts rest) warnings

-- the lines of the faults and the warnings of a source: those of lines of the interpretive language are told by the first
unfoldable pub told_text : Notation → Language → List ℕ → List (List ℕ) → List Finding → List Warning → List ℕ
told_text notation language name texts faults warnings =
    told_around notation language name texts (take (count_before_first language texts faults) faults)
    (drop (count_before_first language texts faults) faults) warnings

-- the lines of the faults and the warnings of a source of a language, and what is said where it has faults and is a file of another kind
unfoldable pub report : Notation → Language → List ℕ → List ℕ → List Finding → List Warning → List ℕ
report notation language name source faults warnings =
    told_text notation language name (lines source) faults warnings
    ++ (if length faults == 0 then [] else kind_of_source notation name source)
