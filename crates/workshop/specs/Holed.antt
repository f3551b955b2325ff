-- What the engine that assembles a source with holes answers, and what it has then written.
use Rattle.std.specs.Prelude.{◌≡◌, ℕ, ◌⊎◌, List, ◌++◌, codes, Option, None, Some, Result, Ok, Err}
use Rattle.rope.specs.Image.{image}
use Rattle.rope.specs.Places.{Words, banks}
use Rattle.rope.specs.declared.spelling.Version.{Version}
use Rattle.audit.specs.CheckWords.{with_checks, HaveRoom, IsFull}
use Rattle.yayul.specs.declared.faults.Fault.{Fault}
use Rattle.yayul.specs.Listing.{listing}
use Rattle.yayul.specs.Program.{Program}
use Rattle.holes.specs.Holes.{GivesHoles, filled, holes_text, program_with}
use Rattle.workshop.specs.declared.fault.WorkshopFault.{WorkshopFault}
use Rattle.workshop.specs.declared.fault.WorkshopFault.TheVariants.{NoMemory}
use Rattle.workshop.specs.Failures.{Writer}
use Rattle.workshop.specs.Faults.{of_source_fault}
use Rattle.workshop.specs.Assemblies.{without_bank}
use Rattle.workshop.specs.Ropes.{WritesText}

-- what an engine has that writes an image and a listing
pub record Printing : Type 0 where
  pub image : Writer
  pub listing : Writer

abbrev pub printing : Writer → Writer → Printing
printing image listing = record { image = image; listing = listing }

-- a listing, and then the holes with their words of an image
abbrev pub listing_with : Program → Words → Words → List ℕ
listing_with p other words = listing p ++ holes_text p.rope other words

-- where the image was written the listing is, and after a failed write nothing of it
abbrev pub ListsHolesThen : List ℕ → Result (Unit {0}) WorkshopFault → Writer → Writer → Result (Unit {0}) WorkshopFault → Type 0
ListsHolesThen text (Ok x) before after result = WritesText text before after result
ListsHolesThen text (Err fault) before after result = (result ≡ Err fault) × (after ≡ before)

-- the image of some words is written, and then a listing
pub record PrintsHoles (version : Version) (words : Words) (text : List ℕ) (before after : Printing)
    (result : Result (Unit {0}) WorkshopFault) : Type 0 where
  pub imaged : Result (Unit {0}) WorkshopFault
  pub writes : WritesText (image version words) before.image after.image imaged
  pub next : ListsHolesThen text imaged before.listing after.listing result

-- nothing is written
abbrev pub PrintsNothing : Printing → Printing → Type 0
PrintsNothing before after = (after.image ≡ before.image) × (after.listing ≡ before.listing)

-- the image of a program and of a filling is written, and the listing with the holes
abbrev pub PrintsFilled : Version → Program → Words → Words → Printing → Printing → Result (Unit {0}) WorkshopFault → Type 0
PrintsFilled version p other words before after result = PrintsHoles version words (listing_with p other words) before after result

-- the same of a program whose holes have their words of a filling; or memory for these words is refused, and nothing is written
abbrev pub FillsAndPrints : Version → Program → Words → Words → Printing → Printing → Result (Unit {0}) WorkshopFault → Type 0
FillsAndPrints version p other from before after result = ((result ≡ Err NoMemory) × PrintsNothing before after)
    ⊎ PrintsFilled version p other (filled p.rope other from) before after result

-- ## Check words
-- a bank has no room for check words: the first such is answered, and nothing is written
pub record TellsFullBank (words : Words) (before after : Printing) (result : Result (Option ℕ) WorkshopFault) : Type 0 where
  pub bank : ℕ
  pub full : IsFull words bank
  pub told : result ≡ Ok (Some bank)
  pub nothing : PrintsNothing before after

-- the image of some words with check words is written, and then the listing with the holes
pub record PrintsChecked (version : Version) (p : Program) (other words : Words) (before after : Printing)
    (result : Result (Option ℕ) WorkshopFault) : Type 0 where
  pub room : HaveRoom words banks
  pub written : Result (Unit {0}) WorkshopFault
  pub prints : PrintsFilled version p other (with_checks words banks) before after written
  pub told : result ≡ without_bank written

-- all of it; or a bank has no room
abbrev pub PrintsWithRoom : Version → Program → Words → Words → Printing → Printing → Result (Option ℕ) WorkshopFault → Type 0
PrintsWithRoom version p other words before after result =
    TellsFullBank words before after result ⊎ PrintsChecked version p other words before after result

-- the same; or memory is refused, and nothing is written
abbrev pub PrintsSummed : Version → Program → Words → Words → Printing → Printing → Result (Option ℕ) WorkshopFault → Type 0
PrintsSummed version p other words before after result = ((result ≡ Err NoMemory) × PrintsNothing before after)
    ⊎ PrintsWithRoom version p other words before after result

-- where a source was assembled all is written, with check words for the words that fill it; and after a fault nothing
abbrev pub SummedThen : Version → Words → Result (Program × Words) Fault → Printing → Printing → Result (Option ℕ) WorkshopFault → Type 0
SummedThen version from (Ok p) before after result = PrintsSummed version p.0 p.1 (filled p.0.rope p.1 from) before after result
SummedThen version from (Err fault) before after result = (result ≡ Err (of_source_fault fault)) × PrintsNothing before after

-- a source is assembled with holes that are filled, and check words, and what that gives decides what is written
pub record AssemblesFilledChecked (version : Version) (filling : Words) (source : List ℕ) (before after : Printing)
    (result : Result (Option ℕ) WorkshopFault) : Type 0 where
  pub assembled : Result (Program × Words) Fault
  pub gives : GivesHoles (program_with (codes "0") source) (program_with (codes "1") source) assembled
  pub next : SummedThen version filling assembled before after result

-- ## Without check words
-- where a source was assembled all is written, with the words of a filling in the holes, where one is given; and after a fault nothing
abbrev pub PrintsThen : Version → Option Words → Result (Program × Words) Fault → Printing → Printing
    → Result (Unit {0}) WorkshopFault → Type 0
PrintsThen version None (Ok p) before after result = PrintsFilled version p.0 p.1 p.0.rope before after result
PrintsThen version (Some from) (Ok p) before after result = FillsAndPrints version p.0 p.1 from before after result
PrintsThen version filling (Err fault) before after result = (result ≡ Err (of_source_fault fault)) × PrintsNothing before after

-- a source is assembled with holes, and what that gives decides what is written
pub record AssemblesWithHoles (version : Version) (filling : Option Words) (source : List ℕ) (before after : Printing)
    (result : Result (Unit {0}) WorkshopFault) : Type 0 where
  pub assembled : Result (Program × Words) Fault
  pub gives : GivesHoles (program_with (codes "0") source) (program_with (codes "1") source) assembled
  pub next : PrintsThen version filling assembled before after result
