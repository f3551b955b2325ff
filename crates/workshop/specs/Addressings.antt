-- What is read of a program, with the places that its source names as addresses.
use Rattle.std.specs.Prelude.{◌≡◌, ℕ, List, [], None, Result, Ok, Err}
use Rattle.json_text.specs.declared.notation.Notation.TheVariants.{Text}
use Rattle.yayul.specs.Program.{Program}
use Rattle.yayul.specs.declared.language.Language.{Language}
use Rattle.addressed.specs.Places.{addressed}
use Rattle.cover.specs.declared.shown.Shown.TheVariants as shown
use Rattle.workshop.specs.declared.addressing.Addressing.{Addressing}
use Rattle.workshop.specs.declared.fault.WorkshopFault.{WorkshopFault}
use Rattle.workshop.specs.declared.origin.Origin.{Origin}
use Rattle.workshop.specs.declared.origin.Origin.TheVariants as origin
use Rattle.workshop.specs.Covers.{ReadsSubject, Subject}
use Rattle.workshop.specs.Inputs.{assembled}
use Rattle.workshop.specs.Loading.{ReadsText}

-- what a source gives
abbrev pub addressing_of : Language → Result Program WorkshopFault → Result Addressing WorkshopFault
addressing_of language (Ok p) =
    Ok (record { rope = p.rope; rows = shown.Source p.source None; places = addressed language p.symbols p.source p.rope })
addressing_of language (Err fault) = Err fault

-- what an image does: it has no source, which would name a place
abbrev pub unaddressed : Result Subject WorkshopFault → Result Addressing WorkshopFault
unaddressed (Ok subject) = Ok (record { rope = subject.0; rows = subject.1; places = [] })
unaddressed (Err fault) = Err fault

pub record ReadsUnaddressed (from : Origin) (old new : List ℕ) (result : Result Addressing WorkshopFault) : Type 0 where
  pub subject : Result Subject WorkshopFault
  pub reads : ReadsSubject Text from old new subject
  pub gives : result ≡ unaddressed subject

-- a program is read, from where its words come
abbrev pub ReadsAddressing : Origin → List ℕ → List ℕ → Result Addressing WorkshopFault → Type 0
ReadsAddressing (origin.Source language) old new result = ReadsText (addressing_of language (assembled language old)) old new result
ReadsAddressing (origin.Image version) old new result = ReadsUnaddressed (origin.Image version) old new result
ReadsAddressing (origin.NamedImage version names) old new result = ReadsUnaddressed (origin.NamedImage version names) old new result
