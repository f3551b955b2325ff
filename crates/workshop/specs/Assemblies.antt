-- What the engine that assembles answers, and what it has then written: the image to one writer, then the listing to another.
use Rattle.std.specs.Prelude.{◌≡◌, ℕ, ◌⊎◌, List, ◌++◌, codes, Option, None, Some, Result, Ok, Err}
use Rattle.words.specs.Numerals.{octal_text}
use Rattle.rope.specs.Image.{image}
use Rattle.rope.specs.Places.{banks, Words}
use Rattle.rope.specs.declared.spelling.Version.{Version}
use Rattle.audit.specs.CheckWords.{with_checks, HaveRoom, IsFull}
use Rattle.yayul.specs.Program.{Program}
use Rattle.yayul.specs.declared.language.Language.{Language}
use Rattle.yayul.specs.Listing.{listing}
use Rattle.workshop.specs.declared.fault.WorkshopFault.{WorkshopFault}
use Rattle.workshop.specs.declared.fault.WorkshopFault.TheVariants.{NoMemory}
use Rattle.workshop.specs.Failures.{Reader, Writer}
use Rattle.workshop.specs.Inputs.{assembled}
use Rattle.workshop.specs.Loading.{Reads, ReadsText}
use Rattle.workshop.specs.Ropes.{WritesText}

-- what an engine that assembles has
pub record Assembling : Type 0 where
  pub source : Reader
  pub image : Writer
  pub listing : Writer

abbrev pub assembling : Reader → Writer → Writer → Assembling
assembling source image listing = record { source = source; image = image; listing = listing }

-- where the image was written the listing is, and after a failed write nothing of it
abbrev pub ListsThen : Program → Result (Unit {0}) WorkshopFault → Writer → Writer → Result (Unit {0}) WorkshopFault → Type 0
ListsThen p (Ok x) before after result = WritesText (listing p) before after result
ListsThen p (Err fault) before after result = (result ≡ Err fault) × (after ≡ before)

-- the image of some words is written, and then the listing of a program
pub record WritesProgram (version : Version) (words : Words) (p : Program) (before after : Assembling)
    (result : Result (Unit {0}) WorkshopFault) : Type 0 where
  pub imaged : Result (Unit {0}) WorkshopFault
  pub writes : WritesText (image version words) before.image after.image imaged
  pub next : ListsThen p imaged before.listing after.listing result

-- where a source was assembled its program is written, and after a fault nothing
abbrev pub AssemblesThen : Version → Result Program WorkshopFault → Assembling → Assembling → Result (Unit {0}) WorkshopFault → Type 0
AssemblesThen version (Ok p) before after result = WritesProgram version p.rope p before after result
AssemblesThen version (Err fault) before after result = (result ≡ Err fault) × (after.image ≡ before.image)
    × (after.listing ≡ before.listing)

-- a source of a language is read, and what was read decides what is written
pub record Assembles (language : Language) (version : Version) (before after : Assembling) (result : Result (Unit {0}) WorkshopFault) : Type
    0 where
  pub program : Result Program WorkshopFault
  pub reads : Reads (λ old new. ReadsText (assembled language old) old new) before.source after.source program
  pub next : AssemblesThen version program before after result

-- nothing is written
abbrev pub WritesNothing : Assembling → Assembling → Type 0
WritesNothing before after = (after.image ≡ before.image) × (after.listing ≡ before.listing)

-- a bank of a program has no room for check words: the first such is answered, and nothing is written
pub record TellsFull (p : Program) (before after : Assembling) (result : Result (Option ℕ) WorkshopFault) : Type 0 where
  pub bank : ℕ
  pub full : IsFull p.rope bank
  pub told : result ≡ Ok (Some bank)
  pub nothing : WritesNothing before after

-- where all is written no bank is answered
abbrev pub without_bank : Result (Unit {0}) WorkshopFault → Result (Option ℕ) WorkshopFault
without_bank (Ok x) = Ok None
without_bank (Err fault) = Err fault

-- the image of a program with check words is written, and then its listing
pub record WritesChecked (version : Version) (p : Program) (before after : Assembling) (result : Result (Option ℕ) WorkshopFault) : Type 0
  where
    pub room : HaveRoom p.rope banks
    pub written : Result (Unit {0}) WorkshopFault
    pub writes : WritesProgram version (with_checks p.rope banks) p before after written
    pub told : result ≡ without_bank written

-- memory for the check words is refused, and nothing is written
abbrev pub HasNoMemory : Assembling → Assembling → Result (Option ℕ) WorkshopFault → Type 0
HasNoMemory before after result = (result ≡ Err NoMemory) × WritesNothing before after

-- where a source was assembled its program is written with check words, and after a fault nothing
abbrev pub ChecksThen : Version → Result Program WorkshopFault → Assembling → Assembling → Result (Option ℕ) WorkshopFault → Type 0
ChecksThen version (Ok p) before after result = HasNoMemory before after result ⊎
    (TellsFull p before after result ⊎ WritesChecked version p before after result)
ChecksThen version (Err fault) before after result = (result ≡ Err fault) × WritesNothing before after

-- a source is read, and what was read decides what is written
pub record AssemblesChecked (language : Language) (version : Version) (before after : Assembling) (result : Result (Option ℕ) WorkshopFault)
    : Type 0 where
  pub program : Result Program WorkshopFault
  pub reads : Reads (λ old new. ReadsText (assembled language old) old new) before.source after.source program
  pub next : ChecksThen version program before after result

-- the line of text that tells a bank without room
abbrev pub no_room_text : ℕ → List ℕ
no_room_text bank = codes "agcws: bank " ++ octal_text 2 bank
    ++ codes " has no room for check words: they take 3 places after its last word\n"
