-- What an engine that profiles a run answers, and what it has then written.
use Rattle.std.specs.Prelude.{◌≡◌, ℕ, ◌⊎◌, List, Option, Some, None, Result, Ok, Err, IfOk}
use Rattle.json_text.specs.declared.notation.Notation.{Notation}
use Rattle.json_text.specs.declared.notation.Notation.TheVariants.{Text, Json}
use Rattle.rope.specs.Places.{Words}
use Rattle.rope.specs.Reading.{IsFull, ReadsImage}
use Rattle.rope.specs.declared.fault.RopeFault.{RopeFault}
use Rattle.rope.specs.declared.spelling.Version.{Version}
use Rattle.feed.specs.declared.entry.Entry.{Entry}
use Rattle.symbols.specs.Values.{SymbolTable}
use Rattle.yayul.specs.Program.{Program}
use Rattle.cover.specs.CoverText.{cover_text}
use Rattle.cover.specs.Tallies.{AllAddUp, ShownAddUp}
use Rattle.cover.specs.declared.shown.Shown.{Shown}
use Rattle.cover.specs.declared.shown.Shown.TheVariants as shown
use Rattle.cpu.specs.State.{Scenario}
use Rattle.workshop.specs.declared.fault.WorkshopFault.{WorkshopFault}
use Rattle.workshop.specs.declared.fault.WorkshopFault.TheVariants.{NoMemory}
use Rattle.workshop.specs.declared.origin.Origin.{Origin}
use Rattle.workshop.specs.declared.origin.Origin.TheVariants as origin
use Rattle.workshop.specs.Failures.{Writer}
use Rattle.workshop.specs.Faults.{of_rope_fault}
use Rattle.workshop.specs.Inputs.{assembled}
use Rattle.workshop.specs.Loading.{Reads, ReadsInputs, ReadsText}
use Rattle.workshop.specs.Ropes.{WritesText}
use Rattle.workshop.specs.Runs.{Running}

-- what is covered: the words of a program, and what is shown of it
abbrev pub Subject : Type 0
Subject = Words × Shown

-- the names that are shown of a source's places: JSON has the symbols as members, and text has the lines alone
abbrev pub names_shown : Notation → SymbolTable → Option SymbolTable
names_shown Text symbols = None
names_shown Json symbols = Some symbols

-- what a source gives, and what an image does
abbrev pub subject_of : Notation → Result Program WorkshopFault → Result Subject WorkshopFault
subject_of notation (Ok p) = Ok (p.rope, shown.Source p.source (names_shown notation p.symbols))
subject_of notation (Err fault) = Err fault

abbrev pub imaged_subject : Option SymbolTable → Result Words RopeFault → Result Subject WorkshopFault
imaged_subject names (Ok words) = Ok (words, shown.Image names)
imaged_subject names (Err fault) = Err (of_rope_fault fault)

-- an image is read, with a word at every place, for whose places some names may stand
pub record ReadsImaged (version : Version) (names : Option SymbolTable) (old new : List ℕ) (result : Result Subject WorkshopFault) : Type 0
  where
    pub read : Result Words RopeFault
    pub reads : ReadsImage version old new read
    pub full : IfOk read IsFull
    pub gives : result ≡ imaged_subject names read

-- what is covered is read, from where its words come
abbrev pub ReadsSubject : Notation → Origin → List ℕ → List ℕ → Result Subject WorkshopFault → Type 0
ReadsSubject notation (origin.Source language) old new result = ReadsText (subject_of notation (assembled language old)) old new result
ReadsSubject notation (origin.Image version) old new result = ReadsImaged version None old new result
ReadsSubject notation (origin.NamedImage version names) old new result = ReadsImaged version (Some names) old new result

-- memory for the figures is refused, and nothing is written; or all steps are made and counted, each once,
-- and their profile is written; all accounts add up, and so do those that rows show
abbrev pub CoversRun : Notation → Shown → Scenario → ℕ → Writer → Writer → Result (Unit {0}) WorkshopFault → Type 0
CoversRun notation lines scenario steps before after result =
    ((result ≡ Err NoMemory) × (after ≡ before))
    ⊎ (WritesText (cover_text notation lines scenario steps) before after result × AllAddUp scenario steps × ShownAddUp scenario steps)

-- where the feed was read the run is covered, and after a fault nothing is written
abbrev pub CoversThen : Notation → Subject → ℕ → Result (List Entry) WorkshopFault → Writer → Writer → Result (Unit {0}) WorkshopFault
    → Type 0
CoversThen notation subject steps (Ok inputs) before after result = CoversRun notation subject.1
    (record { rope = subject.0; inputs = inputs }) steps before after result
CoversThen notation subject steps (Err fault) before after result = (result ≡ Err fault) × (after ≡ before)

pub record CoversNext (notation : Notation) (subject : Subject) (steps : ℕ) (before after : Running)
    (result : Result (Unit {0}) WorkshopFault) : Type 0 where
  pub inputs : Result (List Entry) WorkshopFault
  pub reads : Reads ReadsInputs before.files.feed after.files.feed inputs
  pub next : CoversThen notation subject steps inputs before.out after.out result

-- where the program was read the feed is, and after a fault nothing of it
abbrev pub CoversProgram : Notation → Result Subject WorkshopFault → ℕ → Running → Running → Result (Unit {0}) WorkshopFault → Type 0
CoversProgram notation (Ok subject) steps before after result = CoversNext notation subject steps before after result
CoversProgram notation (Err fault) steps before after result = (result ≡ Err fault) × (after.files.feed ≡ before.files.feed)
    × (after.out ≡ before.out)

-- a program and a feed are read, and what was read decides what is written
pub record Covers (notation : Notation) (from : Origin) (steps : ℕ) (before after : Running) (result : Result (Unit {0}) WorkshopFault) :
    Type 0 where
  pub subject : Result Subject WorkshopFault
  pub reads : Reads (ReadsSubject notation from) before.files.program after.files.program subject
  pub next : CoversProgram notation subject steps before after result
