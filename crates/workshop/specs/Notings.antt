-- What an engine answers that runs a program and notes what is seldom meant, and what it has then written.
use Rattle.std.specs.Prelude.{◌≡◌, ℕ, ◌⊎◌, List, [], Result, Ok, Err, IfOk}
use Rattle.feed.specs.declared.entry.Entry.{Entry}
use Rattle.json_text.specs.declared.notation.Notation.{Notation}
use Rattle.rope.specs.Places.{Words}
use Rattle.rope.specs.Reading.{IsFull, ReadsImage}
use Rattle.rope.specs.declared.fault.RopeFault.{RopeFault}
use Rattle.rope.specs.declared.spelling.Version.{Version}
use Rattle.yayul.specs.Named.{named_places, nothing_named}
use Rattle.yayul.specs.Program.{Program}
use Rattle.cpu.specs.State.{Scenario}
use Rattle.notes.specs.RunNotes.{notes_text}
use Rattle.workshop.specs.declared.engine.Summary.{Summary}
use Rattle.workshop.specs.declared.fault.WorkshopFault.{WorkshopFault}
use Rattle.workshop.specs.declared.fault.WorkshopFault.TheVariants.{NoMemory}
use Rattle.workshop.specs.declared.noting.NamedCode.{NamedCode}
use Rattle.workshop.specs.declared.origin.Origin.{Origin}
use Rattle.workshop.specs.declared.origin.Origin.TheVariants as origin
use Rattle.workshop.specs.Failures.{Writer}
use Rattle.workshop.specs.Faults.{of_rope_fault}
use Rattle.workshop.specs.Inputs.{assembled}
use Rattle.workshop.specs.Loading.{Files, Reads, ReadsInputs, ReadsText}
use Rattle.workshop.specs.Ropes.{WritesText}
use Rattle.workshop.specs.Runs.{Makes, summary_of}

-- what a source gives, and what an image does: it has no source, so that its words name no place
abbrev pub named_of : Result Program WorkshopFault → Result NamedCode WorkshopFault
named_of (Ok p) = Ok (record { rope = p.rope; symbols = p.symbols; named = named_places p })
named_of (Err fault) = Err fault

abbrev pub imaged_named : Result Words RopeFault → Result NamedCode WorkshopFault
imaged_named (Ok words) = Ok (record { rope = words; symbols = []; named = nothing_named })
imaged_named (Err fault) = Err (of_rope_fault fault)

-- an image is read, with a word at every place
pub record ReadsNamedImage (version : Version) (old new : List ℕ) (result : Result NamedCode WorkshopFault) : Type 0 where
  pub read : Result Words RopeFault
  pub reads : ReadsImage version old new read
  pub full : IfOk read IsFull
  pub gives : result ≡ imaged_named read

-- a program is read, from where its words come
abbrev pub ReadsNamed : Origin → List ℕ → List ℕ → Result NamedCode WorkshopFault → Type 0
ReadsNamed (origin.Source language) old new result = ReadsText (named_of (assembled language old)) old new result
ReadsNamed (origin.Image version) old new result = ReadsNamedImage version old new result
ReadsNamed (origin.NamedImage version names) old new result = ReadsNamedImage version old new result

-- the writers of what goes out, and of the notes
pub record Texts : Type 0 where
  pub out : Writer
  pub notes : Writer

abbrev pub out_and_notes : Writer → Writer → Texts
out_and_notes out notes = record { out = out; notes = notes }

-- all steps are made, and then the notes are written; or the run breaks off, and no note is written; or all steps are made, and a
-- beginning of the notes is written
abbrev pub EndsNoted : List ℕ → Scenario → ℕ → Texts → Texts → Result Summary WorkshopFault → Type 0
EndsNoted text scenario steps before after (Ok summary) = Makes scenario steps before.out after.out (Ok summary)
    × WritesText text before.notes after.notes (Ok summary)
EndsNoted text scenario steps before after (Err fault) =
    (Makes scenario steps before.out after.out (Err fault) × (after.notes ≡ before.notes))
    ⊎ (Makes scenario steps before.out after.out (Ok (summary_of scenario steps))
    × WritesText {T = Summary} text before.notes after.notes (Err fault))

-- memory for the notes is refused, and nothing is written; or the run is made and noted
abbrev pub NotesRun : Notation → NamedCode → Scenario → ℕ → Texts → Texts → Result Summary WorkshopFault → Type 0
NotesRun notation code scenario steps before after result =
    ((result ≡ Err NoMemory) × (after ≡ before)) ⊎ EndsNoted (notes_text notation code.symbols code.named scenario steps) scenario steps
    before after result

-- where the feed was read the run is made and noted, and after a fault nothing is written
abbrev pub NotesThen : Notation → NamedCode → ℕ → Result (List Entry) WorkshopFault → Texts → Texts → Result Summary WorkshopFault → Type 0
NotesThen notation code steps (Ok inputs) before after result = NotesRun notation code (record { rope = code.rope; inputs = inputs }) steps
    before after result
NotesThen notation code steps (Err fault) before after result = (result ≡ Err fault) × (after ≡ before)

-- what an engine has that runs and notes
pub record Noting : Type 0 where
  pub files : Files
  pub texts : Texts

abbrev pub running_noted : Files → Texts → Noting
running_noted files texts = record { files = files; texts = texts }

pub record NotesNext (notation : Notation) (code : NamedCode) (steps : ℕ) (before after : Noting) (result : Result Summary WorkshopFault) :
    Type 0 where
  pub inputs : Result (List Entry) WorkshopFault
  pub reads : Reads ReadsInputs before.files.feed after.files.feed inputs
  pub next : NotesThen notation code steps inputs before.texts after.texts result

-- where the program was read the feed is, and after a fault nothing of it
abbrev pub NotesProgram : Notation → Result NamedCode WorkshopFault → ℕ → Noting → Noting → Result Summary WorkshopFault → Type 0
NotesProgram notation (Ok code) steps before after result = NotesNext notation code steps before after result
NotesProgram notation (Err fault) steps before after result = (result ≡ Err fault) × (after.files.feed ≡ before.files.feed)
    × (after.texts ≡ before.texts)

-- a program and a feed are read, and what was read decides what runs
pub record RunsNoted (notation : Notation) (from : Origin) (steps : ℕ) (before after : Noting) (result : Result Summary WorkshopFault) :
    Type 0 where
  pub code : Result NamedCode WorkshopFault
  pub reads : Reads (ReadsNamed from) before.files.program after.files.program code
  pub next : NotesProgram notation code steps before after result
