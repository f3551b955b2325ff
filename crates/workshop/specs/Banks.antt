-- What the engine answers that compares a flight source with an image and gives an account of each bank, and what it has then written.
use Rattle.std.specs.Prelude.{◌≡◌, ◌⊎◌, ℕ, Bool, List, ◌++◌, codes, length, Result, Ok, Err, IfOk}
use Rattle.rope.specs.Places.{Words}
use Rattle.rope.specs.declared.fault.RopeFault.{RopeFault}
use Rattle.rope.specs.declared.spelling.Version.{Version}
use Rattle.audit.specs.Differences.{differing}
use Rattle.audit.specs.declared.differences.Extent.TheVariants.{Filled}
use Rattle.yayul.specs.declared.faults.Fault.{Fault}
use Rattle.yayul.specs.Program.{Program}
use Rattle.assumed.specs.declared.wording.Wording.{Wording}
use Rattle.assumed.specs.Sources.{source_assumed}
use Rattle.confirmed.specs.Confirmed.{assumed_lines, assumed_words}
use Rattle.certain.specs.Accounts.{accounts}
use Rattle.certain.specs.Comparison.{comparison}
use Rattle.certain.specs.Places.{UncertainWords, uncertain_words}
use Rattle.holes.specs.Holes.{GivesHoles, around_holes, program_as}
use Rattle.workshop.specs.declared.fault.WorkshopFault.{WorkshopFault}
use Rattle.workshop.specs.declared.fault.WorkshopFault.TheVariants.{NoMemory}
use Rattle.workshop.specs.declared.ropes.Compared.{Compared}
use Rattle.workshop.specs.declared.ropes.Compared.TheVariants as compared
use Rattle.workshop.specs.Failures.{Writer}
use Rattle.workshop.specs.Faults.{of_rope_fault, of_source_fault}
use Rattle.workshop.specs.Ropes.{ReadsRope, Showing, WritesText}

-- where the words of a source and those of an image around the holes differ; and then the accounts of the banks
abbrev pub banks_text : UncertainWords → Words → Words → Words → List ℕ
banks_text uncertain words other around = comparison uncertain words around ++ accounts uncertain words other around

-- a source under assumptions, with its holes
abbrev pub GivesAssumed : List Wording → Bool → List ℕ → Result (Program × Words) Fault → Type 0
GivesAssumed wordings holes source result =
    GivesHoles (program_as holes (codes "0") (source_assumed wordings source))
    (program_as holes (codes "1") (source_assumed wordings source)) result

-- what is written of the banks, and then what the image says of each wording that is assumed
abbrev pub assumed_text : List Wording → List ℕ → Program → Words → Words → List ℕ
assumed_text wordings source p other around =
    banks_text (uncertain_words p.source p.rope) p.rope other around
    ++ assumed_lines wordings (assumed_words wordings source p.source p.rope) p.rope around

-- all of it, and how many places differ is answered
abbrev pub WritesAround : List Wording → List ℕ → Program → Words → Words → Writer → Writer → Result ℕ WorkshopFault → Type 0
WritesAround wordings source p other around before after result =
    WritesText (assumed_text wordings source p other around) before after result
    × IfOk result (λ count. count ≡ length (differing Filled p.rope around))

-- where memory is refused nothing is written; else all of it, of an image, no hole of which is compared, or puts extracode in force
abbrev pub WritesBanks : List Wording → List ℕ → Program → Words → Words → Writer → Writer → Result ℕ WorkshopFault → Type 0
WritesBanks wordings source p other image before after result =
    ((result ≡ Err NoMemory) × (after ≡ before))
    ⊎ WritesAround wordings source p other (around_holes p.rope other image) before after result

-- where the image was read all is written, and after a fault nothing
abbrev pub BanksThen : List Wording → List ℕ → Program → Words → Result Words RopeFault → Writer → Writer → Result ℕ WorkshopFault → Type 0
BanksThen wordings source p other (Ok image) before after result = WritesBanks wordings source p other image before after result
BanksThen wordings source p other (Err fault) before after result = (result ≡ Err (of_rope_fault fault)) × (after ≡ before)

-- an image is read, and compared with a source
pub record BanksNext (wordings : List Wording) (source : List ℕ) (version : Version) (p : Program) (other : Words)
    (before after : Showing) (result : Result ℕ WorkshopFault) : Type 0 where
  pub read : Result Words RopeFault
  pub reads : ReadsRope version before.image after.image read
  pub next : BanksThen wordings source p other read before.out after.out result

-- where a source was assembled an image is read, and after a fault nothing of it, and nothing is written; and which was read last
abbrev pub ComparesBanksThen : List Wording → List ℕ → Version → Result (Program × Words) Fault → Showing → Showing → Compared
    → Result ℕ WorkshopFault → Type 0
ComparesBanksThen wordings source version (Ok p) before after last result =
    BanksNext wordings source version p.0 p.1 before after result × (last ≡ compared.New)
ComparesBanksThen wordings source version (Err fault) before after last result =
    (result ≡ Err (of_source_fault fault)) × (after ≡ before) × (last ≡ compared.Old)

-- a source under assumptions is assembled, with holes or not, and then an image is read, and they are compared
pub record ComparesBanks (wordings : List Wording) (holes : Bool) (source : List ℕ) (version : Version) (before after : Showing)
    (last : Compared) (result : Result ℕ WorkshopFault) : Type 0 where
  pub assembled : Result (Program × Words) Fault
  pub gives : GivesAssumed wordings holes source assembled
  pub next : ComparesBanksThen wordings source version assembled before after last result
