-- What the engine answers that shows the words of an image beside a source with holes, and what it has then written.
use Rattle.std.specs.Prelude.{◌≡◌, ℕ, List, codes, Option, Result, Ok, Err}
use Rattle.holes.specs.Holes.{GivesHoles, around_holes, program_with}
use Rattle.holes.specs.HoledWords.{holed_lines}
use Rattle.rope.specs.Places.{Words}
use Rattle.rope.specs.declared.spelling.Version.{Version}
use Rattle.yayul.specs.declared.faults.Fault.{Fault}
use Rattle.yayul.specs.Program.{Program}
use Rattle.workshop.specs.declared.fault.WorkshopFault.{WorkshopFault}
use Rattle.workshop.specs.Faults.{of_source_fault}
use Rattle.workshop.specs.Ropes.{Showing, Shows}

-- the words of an image with the symbols of a program, whose holes are the places where other words differ; and
-- no hole's word puts extracode in force
abbrev pub ShowsWithHoles : Version → Option ℕ → Program → Words → Showing → Showing → Result (Unit {0}) WorkshopFault → Type 0
ShowsWithHoles version bank p other before after result =
    Shows version (λ image. holed_lines p.symbols p.rope other image (around_holes p.rope other image) bank) before after result

-- where the source was assembled the image is read, and after a fault nothing of it, and nothing is written
abbrev pub ShowsHoledThen : Version → Option ℕ → Result (Program × Words) Fault → Showing → Showing → Result (Unit {0}) WorkshopFault
    → Type 0
ShowsHoledThen version bank (Ok p) before after result = ShowsWithHoles version bank p.0 p.1 before after result
ShowsHoledThen version bank (Err fault) before after result = (result ≡ Err (of_source_fault fault)) × (after ≡ before)

-- a source is assembled with holes, and then an image is read and shown
pub record ShowsHoled (source : List ℕ) (version : Version) (bank : Option ℕ) (before after : Showing)
    (result : Result (Unit {0}) WorkshopFault) : Type 0 where
  pub assembled : Result (Program × Words) Fault
  pub gives : GivesHoles (program_with (codes "0") source) (program_with (codes "1") source) assembled
  pub next : ShowsHoledThen version bank assembled before after result
