-- What the engines answer that tell what is wrong with a source, and with a feed, and what they have then written.
use Rattle.std.specs.Prelude.{◌≡◌, ℕ, nat_lt, if◌then◌else◌, List, [], length, Bool, Result, Ok, Err, IfOk}
use Rattle.feed.specs.Feed.{most_bytes}
use Rattle.json_text.specs.declared.notation.Notation.{Notation}
use Rattle.symbols.specs.Values.{SymbolTable}
use Rattle.yayul.specs.Survey.{known_symbols, told}
use Rattle.yayul.specs.Program.{Program, program}
use Rattle.yayul.specs.declared.faults.Fault.{Fault}
use Rattle.yayul.specs.declared.language.Language.{Language}
use Rattle.yayul.specs.declared.language.Language.TheVariants.{Flight, Standard}
use Rattle.diagnostics.specs.FeedReport.{feed_faults, feed_report}
use Rattle.warnings.specs.Joined.{joined}
use Rattle.diagnostics.specs.Report.{count_text, report}
use Rattle.warnings.specs.Warnings.{warnings}
use Rattle.warnings.specs.declared.told.Warning.{Warning}
use Rattle.certain.specs.Doubted.{doubted}
use Rattle.workshop.specs.declared.checking.Tally.{Tally}
use Rattle.workshop.specs.declared.fault.WorkshopFault.{WorkshopFault}
use Rattle.workshop.specs.declared.fault.WorkshopFault.TheVariants.{NoMemory, TooLong}
use Rattle.workshop.specs.Failures.{Reader, Writer}
use Rattle.workshop.specs.Loading.{Reads, ReadsText}
use Rattle.workshop.specs.Ropes.{WritesText}

-- the warnings of words that are not certain, where a flight source has no fault
abbrev pub doubts_in : Result Program Fault → List Warning
doubts_in (Ok p) = doubted p.source p.rope
doubts_in (Err fault) = []

-- all warnings of a source of a language, by the values of its symbols, those of labels that no operand names where they are asked for
abbrev pub cautions : Language → Bool → SymbolTable → List ℕ → List Warning
cautions Standard unused table source = warnings Standard unused table source
cautions Flight unused table source = joined (warnings Flight unused table source) (doubts_in (program Flight source))

-- those by the values that its lines without a fault give
abbrev pub cautions_in : Language → Bool → List ℕ → List Warning
cautions_in language unused source = cautions language unused (known_symbols language source) source

-- how many faults and warnings are told of a source of a language, with labels that no operand names where that is asked for
abbrev pub tally : Language → Bool → List ℕ → Tally
tally language unused source = record { errors = length (told language source); warnings = length (cautions_in language unused source) }

-- the faults and the warnings of a source of a language and of this name in a notation; and how many there are
abbrev pub reported : Notation → Language → List ℕ → Bool → List ℕ → Result (List ℕ × Tally) WorkshopFault
reported notation language name unused source =
    if nat_lt most_bytes (length source) then Err TooLong else Ok
    (report notation language name source (told language source) (cautions_in language unused source), tally language unused source)

-- the fault of a feed of this name in a notation, where it has one; and how many are told
abbrev pub feed_reported : Notation → List ℕ → List ℕ → Result (List ℕ × ℕ) WorkshopFault
feed_reported notation name feed = if nat_lt most_bytes (length feed) then Err TooLong else Ok
    (feed_report notation name feed, feed_faults feed)

-- what an engine has that tells faults
pub record Checking : Type 0 where
  pub input : Reader
  pub out : Writer

abbrev pub checking : Reader → Writer → Checking
checking input out = record { input = input; out = out }

-- where an input was read its faults are written, and how many there are is answered; after a fault nothing is
abbrev pub ChecksThen : {T : Type 0} → Result (List ℕ × T) WorkshopFault → Writer → Writer → Result T WorkshopFault → Type 0
ChecksThen (Ok r) before after result = WritesText r.0 before after result × IfOk result (λ count. count ≡ r.1)
ChecksThen (Err fault) before after result = (result ≡ Err fault) × (after ≡ before)

-- an input is read, and what was read decides what is written
pub record Checks {T : Type 0} (gives : List ℕ → Result (List ℕ × T) WorkshopFault) (before after : Checking)
    (result : Result T WorkshopFault) : Type 0 where
  pub told_of : Result (List ℕ × T) WorkshopFault
  pub reads : Reads (λ old new. ReadsText (gives old) old new) before.input after.input told_of
  pub next : ChecksThen told_of before.out after.out result

-- how many faults and warnings there are is written in a notation; where memory was refused nothing is
abbrev pub TellsTally : Notation → Tally → Writer → Writer → Result (Unit {0}) WorkshopFault → Type 0
TellsTally notation counted before after (Err NoMemory) = after ≡ before
TellsTally notation counted before after result = WritesText (count_text notation counted.errors counted.warnings) before after result
