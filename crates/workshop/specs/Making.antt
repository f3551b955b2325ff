-- What the engines answer that make a text of an image in memory, and what they have then written.
use Rattle.std.specs.Prelude.{◌≡◌, ℕ, List, Option, Result, Ok, Err}
use Rattle.named_source.specs.NamedSources.{named_source}
use Rattle.names.specs.Uses.{cross_reference}
use Rattle.rope.specs.Places.{Words}
use Rattle.rope.specs.declared.spelling.Version.{Version}
use Rattle.rope.specs.declared.fault.RopeFault.{RopeFault}
use Rattle.symbols.specs.Values.{SymbolTable}
use Rattle.workshop.specs.declared.fault.WorkshopFault.{WorkshopFault}
use Rattle.workshop.specs.declared.fault.WorkshopFault.TheVariants.{NoMemory}
use Rattle.workshop.specs.declared.naming.NamedText.{NamedText}
use Rattle.workshop.specs.declared.naming.NamedText.TheVariants as made
use Rattle.workshop.specs.Failures.{Writer}
use Rattle.workshop.specs.Faults.{of_rope_fault}
use Rattle.workshop.specs.Ropes.{ReadsRope, Showing, WritesText}

-- what is made of the words of a bank, or of all banks, and of some names
abbrev pub named_text : NamedText → SymbolTable → Words → Option ℕ → List ℕ
named_text made.Source names words bank = named_source names words bank
named_text made.Uses names words bank = cross_reference names words bank

-- a text is written, or memory ran out, and nothing is written
abbrev pub MakesText : List ℕ → Writer → Writer → Result (Unit {0}) WorkshopFault → Type 0
MakesText text before after (Err NoMemory) = after ≡ before
MakesText text before after result = WritesText text before after result

-- where an image was read that is so of a text of its words, and after a fault nothing
abbrev pub MakesThen : (Words → List ℕ) → Result Words RopeFault → Writer → Writer → Result (Unit {0}) WorkshopFault → Type 0
MakesThen text (Ok words) before after result = MakesText (text words) before after result
MakesThen text (Err fault) before after result = (result ≡ Err (of_rope_fault fault)) × (after ≡ before)

-- an image is read, and what was read decides what is written
pub record ShowsMade (version : Version) (text : Words → List ℕ) (before after : Showing) (result : Result (Unit {0}) WorkshopFault) : Type
    0 where
  pub read : Result Words RopeFault
  pub reads : ReadsRope version before.image after.image read
  pub next : MakesThen text read before.out after.out result
