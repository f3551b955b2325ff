-- What an engine answers that tries inputs and tells what they change in the notes, and what it has then written.
use Rattle.std.specs.Prelude.{◌≡◌, ℕ, ◌⊎◌, List, Result, Ok, Err}
use Rattle.feed.specs.Feed.{inputs}
use Rattle.feed.specs.declared.entry.Entry.{Entry}
use Rattle.feed.specs.declared.entry.Plain.{Plain}
use Rattle.whatif.specs.Changes.{note_trials_text}
use Rattle.workshop.specs.declared.fault.WorkshopFault.{WorkshopFault}
use Rattle.workshop.specs.declared.fault.WorkshopFault.TheVariants.{NoMemory, Feed}
use Rattle.feed.specs.declared.fault.FeedFault.TheVariants.{TooMany, OutOfOrder}
use Rattle.workshop.specs.declared.noting.NamedCode.{NamedCode}
use Rattle.workshop.specs.declared.origin.Origin.{Origin}
use Rattle.workshop.specs.Failures.{Writer}
use Rattle.workshop.specs.Inputs.{of_feed}
use Rattle.workshop.specs.Loading.{Answering, Reads}
use Rattle.workshop.specs.Notings.{ReadsNamed}
use Rattle.workshop.specs.Ropes.{WritesText}

-- trials are refused, or memory is, and nothing is written; or the text is, all of it, or a beginning where the writer has failed
abbrev pub WritesNotes : List ℕ → Writer → Writer → Result (Unit {0}) WorkshopFault → Type 0
WritesNotes text before after result =
    (((result ≡ Err NoMemory) ⊎ ((result ≡ Err (Feed TooMany)) ⊎ (result ≡ Err (Feed (OutOfOrder 0))))) × (after ≡ before))
    ⊎ WritesText text before after result

-- where the feed has a fault that is answered, and nothing is written
abbrev pub TriesNotesBy : NamedCode → List Plain → ℕ → Result (List Entry) WorkshopFault → Writer → Writer
    → Result (Unit {0}) WorkshopFault → Type 0
TriesNotesBy code trials steps (Ok list) before after result =
    WritesNotes (note_trials_text code.named (record { rope = code.rope; inputs = list }) trials steps) before after result
TriesNotesBy code trials steps (Err fault) before after result = (result ≡ Err fault) × (after ≡ before)

-- memory is refused, and nothing is written; or the text of the feed decides
abbrev pub TriesNotesFeed : NamedCode → List ℕ → List Plain → ℕ → Writer → Writer → Result (Unit {0}) WorkshopFault → Type 0
TriesNotesFeed code feed trials steps before after result =
    ((result ≡ Err NoMemory) × (after ≡ before)) ⊎ TriesNotesBy code trials steps (of_feed (inputs feed)) before after result

abbrev pub TriesNotesThen : List ℕ → List Plain → ℕ → Result NamedCode WorkshopFault → Writer → Writer
    → Result (Unit {0}) WorkshopFault → Type 0
TriesNotesThen feed trials steps (Ok code) before after result = TriesNotesFeed code feed trials steps before after result
TriesNotesThen feed trials steps (Err fault) before after result = (result ≡ Err fault) × (after ≡ before)

-- a program is read, and what was read decides what is told
pub record TriesNotes (from : Origin) (feed : List ℕ) (trials : List Plain) (steps : ℕ) (before after : Answering)
    (result : Result (Unit {0}) WorkshopFault) : Type 0 where
  pub code : Result NamedCode WorkshopFault
  pub reads : Reads (ReadsNamed from) before.program after.program code
  pub next : TriesNotesThen feed trials steps code before.out after.out result
