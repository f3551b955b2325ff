-- What the engines answer that align two ropes, and what they have then written.
use Rattle.std.specs.Prelude.{◌≡◌, ℕ, List, Result, Ok, Err}
use Rattle.rope.specs.Places.{Words}
use Rattle.rope.specs.declared.spelling.Version.{Version}
use Rattle.rope.specs.declared.fault.RopeFault.{RopeFault}
use Rattle.align.specs.AlignTexts.{found_lines}
use Rattle.align.specs.Alignments.{IsAlignment, Renaming}
use Rattle.align.specs.Pairings.{Pairing}
use Rattle.workshop.specs.declared.fault.WorkshopFault.{WorkshopFault}
use Rattle.workshop.specs.declared.fault.WorkshopFault.TheVariants.{NoMemory}
use Rattle.workshop.specs.declared.ropes.Compared.{Compared}
use Rattle.workshop.specs.declared.ropes.Compared.TheVariants as compared
use Rattle.workshop.specs.Failures.{Writer}
use Rattle.workshop.specs.Faults.{of_rope_fault}
use Rattle.workshop.specs.Inputs.{assembled}
use Rattle.workshop.specs.Loading.{Reads, ReadsText}
use Rattle.workshop.specs.Ropes.{Comparing, ReadsRope, WritesText}
use Rattle.yayul.specs.declared.language.Language.{Language}
use Rattle.yayul.specs.Program.{Program}

-- the fewest words of a run
abbrev pub least_run : ℕ
least_run = 12

-- a text of an alignment of two ropes is written, and of how addresses are renamed in it
pub record WritesAligned (text : Words → Words → Renaming → Pairing → List ℕ) (old new : Words) (before after : Writer)
    (result : Result (Unit {0}) WorkshopFault) : Type 0 where
  pub renaming : Renaming
  pub pairing : Pairing
  pub aligned : IsAlignment least_run old new renaming pairing
  pub written : WritesText (text old new renaming pairing) before after result

-- that is so, or memory ran out, and nothing is written
abbrev pub TellsAligned : (Words → Words → Renaming → Pairing → List ℕ) → Words → Words → Writer → Writer → Result (Unit {0}) WorkshopFault
    → Type 0
TellsAligned text old new before after (Err NoMemory) = after ≡ before
TellsAligned text old new before after result = WritesAligned text old new before after result

-- where the second image was read too, and after a fault nothing
abbrev pub AlignsNext : (Words → Words → Renaming → Pairing → List ℕ) → Words → Result Words RopeFault → Writer → Writer
    → Result (Unit {0}) WorkshopFault → Type 0
AlignsNext text old (Ok new) before after result = TellsAligned text old new before after result
AlignsNext text old (Err fault) before after result = (result ≡ Err (of_rope_fault fault)) × (after ≡ before)

-- where the words of the first are there an image is read, and after a fault nothing of it, and nothing is written
pub record AlignsWith (text : Words → Words → Renaming → Pairing → List ℕ) (version : Version) (old : Words) (before after : Comparing)
    (result : Result (Unit {0}) WorkshopFault) : Type 0 where
  pub read : Result Words RopeFault
  pub reads : ReadsRope version before.new after.new read
  pub next : AlignsNext text old read before.out after.out result

abbrev pub AlignsThen : (Words → Words → Renaming → Pairing → List ℕ) → Version → Result Words RopeFault → Comparing → Comparing → Compared
    → Result (Unit {0}) WorkshopFault → Type 0
AlignsThen text version (Ok words) before after last result = AlignsWith text version words before after result × (last ≡ compared.New)
AlignsThen text version (Err fault) before after last result =
    (result ≡ Err (of_rope_fault fault)) × (after.new ≡ before.new) × (after.out ≡ before.out) × (last ≡ compared.Old)

-- the first image is read, and then the second, and a text of their alignment is written; and which was read last, of which a fault of an
-- image is
pub record Aligns (text : Words → Words → Renaming → Pairing → List ℕ) (first second : Version) (before after : Comparing) (last : Compared)
    (result : Result (Unit {0}) WorkshopFault) : Type 0 where
  pub read : Result Words RopeFault
  pub reads : ReadsRope first before.old after.old read
  pub next : AlignsThen text second read before after last result

-- where a source was assembled an image is read, and after a fault nothing of it, and nothing is written
abbrev pub FindsThen : Version → Result Program WorkshopFault → Comparing → Comparing → Compared → Result (Unit {0}) WorkshopFault → Type 0
FindsThen version (Ok p) before after last result = AlignsWith found_lines version p.rope before after result × (last ≡ compared.New)
FindsThen version (Err fault) before after last result =
    (result ≡ Err fault) × (after.new ≡ before.new) × (after.out ≡ before.out) × (last ≡ compared.Old)

-- a source of a language is assembled, and then an image is read: where its words stand there is written; and which was read last
pub record Finds (language : Language) (version : Version) (before after : Comparing) (last : Compared)
    (result : Result (Unit {0}) WorkshopFault) : Type 0 where
  pub program : Result Program WorkshopFault
  pub reads : Reads (λ old new. ReadsText (assembled language old) old new) before.old after.old program
  pub next : FindsThen version program before after last result
