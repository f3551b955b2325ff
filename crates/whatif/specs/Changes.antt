-- Which notes a run has with one input more, and which it then has no longer.
use Rattle.std.specs.Prelude.{ℕ, List, [], ◌++◌, codes, decimal, Bool, Option, None, Some, if◌then◌else◌}
use Rattle.std.specs.List.{flat_map}
use Rattle.agc_text.specs.Tables.{same_name}
use Rattle.space.specs.declared.place.Linear.{Linear}
use Rattle.yayul.specs.Listing.{place_text}
use Rattle.yayul.specs.Named.{Named}
use Rattle.feed.specs.declared.entry.Plain.{Plain}
use Rattle.cpu.specs.State.{Scenario, State}
use Rattle.notes.specs.declared.kind.Kind.{Kind}
use Rattle.notes.specs.declared.kind.Kind.TheVariants.{Overwritten}
use Rattle.notes.specs.declared.noted.Note.{Note}
use Rattle.notes.specs.Noted.{Noted, has_note, noted_by, nothing_noted}
use Rattle.notes.specs.RunNotes.{kind_word}
use Rattle.whatif.specs.declared.span.Span.{Span}
use Rattle.whatif.specs.Looked.{More, all_came, looked}
use Rattle.whatif.specs.Together.{told_together}

-- what is noted with a step more, and of n steps, of which those after so many are looked at
abbrev pub note : Named → More Noted
note named rope s step put a = noted_by named rope s step a

abbrev pub noted : Named → ℕ → Scenario → ℕ → Noted
noted named from scenario n = looked nothing_noted (note named) from scenario n

abbrev pub notes_of : Named → ℕ → Scenario → ℕ → List Note
notes_of named from scenario steps = (noted named from scenario steps).notes

-- where a note is, as `run --notes` tells it: an input is nowhere, and a word that waited came from BRUPT
abbrev pub nowhere_text : Kind → List ℕ
nowhere_text Overwritten = codes "-"
nowhere_text kind = codes "BRUPT"

abbrev pub spot_text : Kind → Option Linear → List ℕ
spot_text kind None = nowhere_text kind
spot_text kind (Some place) = place_text place

-- the line of a note, after a word
abbrev pub note_line : List ℕ → Note → List ℕ
note_line word note = word ++ kind_word note.kind ++ codes " " ++ spot_text note.kind note.place ++ codes "\n"

-- the lines of those that are not among some
abbrev pub other_line : List ℕ → List Note → Note → List ℕ
other_line word notes note = if has_note notes note then [] else note_line word note

abbrev pub others_text : List ℕ → List Note → List Note → List ℕ
others_text word notes others = flat_map (other_line word notes) others

-- what changes between two runs: the notes that the second has and the first has not, and those that it has not
abbrev pub change_text : List Note → List Note → List ℕ
change_text without now = others_text (codes "MORE ") without now ++ others_text (codes "LESS ") now without

-- what has been noted changes beside those, and what each of some inputs alone changes, with its cycle
abbrev pub change : List Note → State → Noted → List ℕ
change without s a = change_text without a.notes

abbrev pub changes : Named → List Note → ℕ → Scenario → ℕ → List Plain → List (ℕ × List ℕ)
changes named without from scenario steps trials = all_came (change without) nothing_noted (note named) from scenario steps trials

-- trials one after another that change the same are told together
abbrev pub joins : Span (List ℕ) → ℕ → List ℕ → Bool
joins span cycle text = same_name span.came text

abbrev pub span_line : Span (List ℕ) → List ℕ
span_line s = codes "FROM " ++ decimal s.first ++ codes " TO " ++ decimal s.last ++ codes " COUNT " ++ decimal s.count ++ codes "\n"

abbrev pub span_text : Span (List ℕ) → List ℕ
span_text s = span_line s ++ s.came

-- the notes of the run without an input more
abbrev pub without_text : List Note → List ℕ
without_text notes = others_text (codes "NOTE ") [] notes

-- those, and what each of some inputs changes
unfoldable pub trials_text : Named → ℕ → Scenario → List Plain → ℕ → List ℕ
trials_text named from scenario trials steps =
    let without = notes_of named from scenario steps in
    without_text without ++ told_together joins span_text None (changes named without from scenario steps trials)

-- of a whole run
unfoldable pub note_trials_text : Named → Scenario → List Plain → ℕ → List ℕ
note_trials_text named scenario trials steps = trials_text named 0 scenario trials steps
