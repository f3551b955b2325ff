-- What the engines answer that read images, and what they have then written.
use Rattle.std.specs.Prelude.{◌≡◌, ◌⊎◌, ℕ, true, List, ◌++◌, length, Result, Ok, Err, IfOk, if◌then◌else◌}
use Rattle.words.specs.Devices.{WritesBeginning, one_more}
use Rattle.rope.specs.Places.{Words}
use Rattle.rope.specs.Dumps.{ReadsDump}
use Rattle.rope.specs.Reading.{ReadsImage, has_read_failed}
use Rattle.rope.specs.declared.spelling.Version.{Version}
use Rattle.audit.specs.FormNames.{form_lines}
use Rattle.audit.specs.Octals.{octals_text}
use Rattle.audit.specs.SourceLines.{source_text}
use Rattle.audit.specs.Sums.{sum_lines}
use Rattle.audit.specs.WordLines.{word_lines}
use Rattle.rope.specs.declared.fault.RopeFault.{RopeFault}
use Rattle.audit.specs.Damages.{count_of, damages}
use Rattle.audit.specs.Mended.{mended_source}
use Rattle.audit.specs.Differences.{differing, differences}
use Rattle.audit.specs.declared.differences.Extent.{Extent}
use Rattle.audit.specs.declared.differences.Extent.TheVariants.{All, Filled}
use Rattle.audit.specs.Parities.{wrong, parities}
use Rattle.certain.specs.Comparison.{comparison}
use Rattle.certain.specs.Places.{uncertain_words}
use Rattle.workshop.specs.declared.fault.WorkshopFault.{WorkshopFault}
use Rattle.workshop.specs.declared.fault.WorkshopFault.TheVariants.{NoMemory, WriteFailed}
use Rattle.workshop.specs.declared.ropes.Compared.{Compared}
use Rattle.workshop.specs.declared.ropes.Compared.TheVariants as compared
use Rattle.workshop.specs.declared.ropes.DumpText.{DumpText}
use Rattle.workshop.specs.declared.ropes.DumpText.TheVariants as dump
use Rattle.workshop.specs.declared.ropes.RopeText.{RopeText}
use Rattle.workshop.specs.declared.ropes.RopeText.TheVariants as shown
use Rattle.workshop.specs.Failures.{Reader, Writer}
use Rattle.workshop.specs.Faults.{of_rope_fault}
use Rattle.workshop.specs.Inputs.{assembled}
use Rattle.workshop.specs.Loading.{Reads, ReadsText}
use Rattle.yayul.specs.declared.language.Language.{Language}
use Rattle.yayul.specs.declared.language.Language.TheVariants.{Standard, Flight}
use Rattle.yayul.specs.Program.{Program}

-- an image is read, where its bytes are told; and the reader has failed exactly where that is answered
pub record ReadsRope (version : Version) (before after : Reader) (read : Result Words RopeFault) : Type 0 where
  pub bytes : before.told ≡ true → ReadsImage version before.left after.left read
  pub failures : after.failures ≡ (if has_read_failed read then one_more before.failures else before.failures)

-- a text is written: all of it, or a beginning of it where the writer has failed
abbrev pub WritesText : {T : Type 0} → List ℕ → Writer → Writer → Result T WorkshopFault → Type 0
WritesText text before after (Ok x) = (before.told ≡ true → after.written ≡ before.written ++ text) × (after.failures ≡ before.failures)
WritesText text before after (Err WriteFailed) =
    (before.told ≡ true → WritesBeginning before.written after.written text) × (after.failures ≡ one_more before.failures)
WritesText text before after (Err _) = ⊥

-- what is shown of the words of an image of a version
abbrev pub shown_text : RopeText → Version → Words → List ℕ
shown_text (shown.Words bank) version words = word_lines words bank
shown_text (shown.Source bank) version words = source_text words bank
shown_text (shown.Octals bank) version words = octals_text words bank
shown_text shown.Sums version words = sum_lines words
shown_text shown.FormSums version words = form_lines version words

-- where an image was read a text of its words is written, and after a fault nothing
abbrev pub ShowsThen : (Words → List ℕ) → Result Words RopeFault → Writer → Writer → Result (Unit {0}) WorkshopFault → Type 0
ShowsThen text (Ok words) before after result = WritesText (text words) before after result
ShowsThen text (Err fault) before after result = (result ≡ Err (of_rope_fault fault)) × (after ≡ before)

-- what an engine has that shows an image
pub record Showing : Type 0 where
  pub image : Reader
  pub out : Writer

abbrev pub showing : Reader → Writer → Showing
showing image out = record { image = image; out = out }

-- an image is read, and what was read decides what is written
pub record Shows (version : Version) (text : Words → List ℕ) (before after : Showing) (result : Result (Unit {0}) WorkshopFault) : Type 0
  where
    pub read : Result Words RopeFault
    pub reads : ReadsRope version before.image after.image read
    pub next : ShowsThen text read before.out after.out result

-- where the second image was read too the differences at places of an extent are written, and how many there are is answered
abbrev pub WritesDifferences : Extent → Words → Result Words RopeFault → Writer → Writer → Result ℕ WorkshopFault → Type 0
WritesDifferences extent words (Ok others) before after result =
    WritesText (differences extent words others) before after result × IfOk result (λ count. count ≡ length (differing extent words others))
WritesDifferences extent words (Err fault) before after result = (result ≡ Err (of_rope_fault fault)) × (after ≡ before)

-- what an engine has that compares an image with another, or with a source
pub record Comparing : Type 0 where
  pub old : Reader
  pub new : Reader
  pub out : Writer

abbrev pub comparing : Reader → Reader → Writer → Comparing
comparing old new out = record { old = old; new = new; out = out }

-- where the first words were read an image is, and after a fault nothing of it, and nothing is written
pub record ComparesNext (extent : Extent) (version : Version) (words : Words) (before after : Comparing) (result : Result ℕ WorkshopFault) :
    Type 0 where
  pub read : Result Words RopeFault
  pub reads : ReadsRope version before.new after.new read
  pub next : WritesDifferences extent words read before.out after.out result

abbrev pub ComparesThen : Version → Result Words RopeFault → Comparing → Comparing → Compared → Result ℕ WorkshopFault → Type 0
ComparesThen version (Ok words) before after last result = ComparesNext All version words before after result × (last ≡ compared.New)
ComparesThen version (Err fault) before after last result =
    (result ≡ Err (of_rope_fault fault)) × (after.new ≡ before.new) × (after.out ≡ before.out) × (last ≡ compared.Old)

-- the first image is read, and then the second; and which was read last, of which a fault of an image is
pub record Compares (first second : Version) (before after : Comparing) (last : Compared) (result : Result ℕ WorkshopFault) : Type 0 where
  pub read : Result Words RopeFault
  pub reads : ReadsRope first before.old after.old read
  pub next : ComparesThen second read before after last result

-- where memory is refused nothing is written; else the differences of a flight source, with its uncertain places, and how many there are is
-- answered
abbrev pub WritesUncertain : Program → Words → Writer → Writer → Result ℕ WorkshopFault → Type 0
WritesUncertain p words before after result =
    ((result ≡ Err NoMemory) × (after ≡ before))
    ⊎ (WritesText (comparison (uncertain_words p.source p.rope) p.rope words) before after result
    × IfOk result (λ count. count ≡ length (differing Filled p.rope words)))

-- the differences at the places that a source of a language fills
abbrev pub WritesCompared : Language → Program → Words → Writer → Writer → Result ℕ WorkshopFault → Type 0
WritesCompared Standard p words before after result = WritesDifferences Filled p.rope (Ok words) before after result
WritesCompared Flight p words before after result = WritesUncertain p words before after result

abbrev pub ComparedThen : Language → Program → Result Words RopeFault → Writer → Writer → Result ℕ WorkshopFault → Type 0
ComparedThen language p (Ok words) before after result = WritesCompared language p words before after result
ComparedThen language p (Err fault) before after result = (result ≡ Err (of_rope_fault fault)) × (after ≡ before)

-- an image is read, and compared with a source
pub record ComparesImage (language : Language) (version : Version) (p : Program) (before after : Comparing)
    (result : Result ℕ WorkshopFault) : Type 0 where
  pub read : Result Words RopeFault
  pub reads : ReadsRope version before.new after.new read
  pub next : ComparedThen language p read before.out after.out result

-- where a source was assembled an image is read, and after a fault nothing of it, and nothing is written
abbrev pub ComparesOnlyThen : Language → Version → Result Program WorkshopFault → Comparing → Comparing → Compared → Result ℕ WorkshopFault
    → Type 0
ComparesOnlyThen language version (Ok p) before after last result =
    ComparesImage language version p before after result × (last ≡ compared.New)
ComparesOnlyThen language version (Err fault) before after last result =
    (result ≡ Err fault) × (after.new ≡ before.new) × (after.out ≡ before.out) × (last ≡ compared.Old)

-- a source of a language is assembled, and then an image is read: they are compared at the places that the source fills; and which was
-- read last
pub record ComparesOnly (language : Language) (version : Version) (before after : Comparing) (last : Compared)
    (result : Result ℕ WorkshopFault) : Type 0 where
  pub program : Result Program WorkshopFault
  pub reads : Reads (λ old new. ReadsText (assembled language old) old new) before.old after.old program
  pub next : ComparesOnlyThen language version program before after last result

-- the bytes of an image are read, where they are told; and the reader has failed exactly where that is answered
pub record ReadsBytes (before after : Reader) (read : Result (List ℕ) RopeFault) : Type 0 where
  pub bytes : before.told ≡ true → ReadsDump before.left after.left read
  pub failures : after.failures ≡ (if has_read_failed read then one_more before.failures else before.failures)

-- what is told of the bytes of an image, and what is counted: the words with a wrong parity, or of how many banks damages tell
abbrev pub dump_text : DumpText → List ℕ → List ℕ
dump_text dump.Parities image = parities image
dump_text dump.Damages image = damages image

abbrev pub dump_count : DumpText → List ℕ → ℕ
dump_count dump.Parities image = length (wrong image)
dump_count dump.Damages image = count_of image

-- where the bytes of an image were read that is written, and the count is answered
abbrev pub WritesDump : DumpText → Result (List ℕ) RopeFault → Writer → Writer → Result ℕ WorkshopFault → Type 0
WritesDump text (Ok image) before after result =
    WritesText (dump_text text image) before after result × IfOk result (λ count. count ≡ dump_count text image)
WritesDump text (Err fault) before after result = (result ≡ Err (of_rope_fault fault)) × (after ≡ before)

-- the bytes of an image are read, and what was read decides what is written
pub record TellsDump (text : DumpText) (before after : Showing) (result : Result ℕ WorkshopFault) : Type 0 where
  pub read : Result (List ℕ) RopeFault
  pub reads : ReadsBytes before.image after.image read
  pub next : WritesDump text read before.out after.out result

-- where the bytes of an image were read a source of its mended words is written
abbrev pub WritesMended : Result (List ℕ) RopeFault → Writer → Writer → Result (Unit {0}) WorkshopFault → Type 0
WritesMended (Ok image) before after result = WritesText (mended_source image) before after result
WritesMended (Err fault) before after result = (result ≡ Err (of_rope_fault fault)) × (after ≡ before)

-- the bytes of an image are read, and what was read decides what is written
pub record ShowsMended (before after : Showing) (result : Result (Unit {0}) WorkshopFault) : Type 0 where
  pub read : Result (List ℕ) RopeFault
  pub reads : ReadsBytes before.image after.image read
  pub next : WritesMended read before.out after.out result
