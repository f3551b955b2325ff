-- What the engine that writes a cross-reference answers, and what it has then written.
use Rattle.std.specs.Prelude.{◌≡◌, ℕ, ◌⊎◌, List, Result, Err}
use Rattle.yayul.specs.declared.language.Language.{Language}
use Rattle.xref.specs.Xref.{cross_reference}
use Rattle.workshop.specs.declared.fault.WorkshopFault.{WorkshopFault}
use Rattle.workshop.specs.declared.fault.WorkshopFault.TheVariants.{NoMemory}
use Rattle.workshop.specs.Failures.{Writer}
use Rattle.workshop.specs.Ropes.{WritesText}

-- the cross-reference of a source is written, or memory is refused, and nothing is
abbrev pub CrossReferences : Language → List ℕ → Writer → Writer → Result (Unit {0}) WorkshopFault → Type 0
CrossReferences language source before after result =
    ((result ≡ Err NoMemory) × (after ≡ before)) ⊎ WritesText (cross_reference language source) before after result
