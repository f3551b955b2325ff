-- What an engine answers that tells the most cycles of a routine, and what it has then written.
use Rattle.std.specs.Prelude.{◌≡◌, ◌⊎◌, ℕ, List, [], Option, Some, None, Result, Ok, Err, IfOk}
use Rattle.agc_text.specs.Fields.{runs, texts}
use Rattle.bound.specs.Asked.{kept_named, limits_named, routine_named}
use Rattle.bound.specs.Bounds.{IsFound}
use Rattle.bound.specs.BoundText.{answer_text}
use Rattle.bound.specs.declared.charge.Limit.{Limit}
use Rattle.bound.specs.declared.counted.Counted.{Counted}
use Rattle.bound.specs.declared.finding.Answer.{Answer}
use Rattle.bound.specs.declared.finding.Answer.TheVariants.{Most}
use Rattle.bound.specs.declared.finding.Answer.TheVariants as answer
use Rattle.bound.specs.declared.site.Site.{Site}
use Rattle.rope.specs.Places.{Words}
use Rattle.symbols.specs.Values.{SymbolTable}
use Rattle.workshop.specs.declared.bounding.Bounded.{Bounded}
use Rattle.workshop.specs.declared.bounding.Bounded.TheVariants.{Told, Refused, NotNamed}
use Rattle.workshop.specs.declared.fault.WorkshopFault.{WorkshopFault}
use Rattle.workshop.specs.declared.fault.WorkshopFault.TheVariants.{NoMemory}
use Rattle.workshop.specs.declared.origin.Origin.{Origin}
use Rattle.workshop.specs.Failures.{Writer}
use Rattle.workshop.specs.Inputs.{Code}
use Rattle.workshop.specs.Loading.{Answering, Reads, ReadsProgram}
use Rattle.workshop.specs.Ropes.{WritesText}

-- what is asked for: the texts of a routine, of pairs of a place and a number, and of cells
pub record Question : Type 0 where
  pub routine : List ℕ
  pub loops : List ℕ
  pub kept : List ℕ

abbrev pub question : List ℕ → List ℕ → List ℕ → Question
question routine loops kept = record { routine = routine; loops = loops; kept = kept }

-- whether a bound is told
abbrev pub told_of : Answer → Bounded
told_of (Most most) = Told
told_of (answer.Refused p why) = Refused

-- a bound of the routine with the loops that are counted, or a place and a cause why none is found, is written
pub record WritesBound (words : Words) (kept : List ℕ) (limits : List Limit) (routine : Site) (before after : Writer)
    (result : Result Bounded WorkshopFault) : Type 0 where
  pub answer : Answer
  pub loops : List Counted
  pub is : IsFound words kept limits routine answer loops
  pub writes : WritesText (answer_text answer loops) before after result
  pub told : IfOk result (λ told. told ≡ told_of answer)

-- a text names nothing, and nothing is written
abbrev pub NamesNothing : Writer → Writer → Result Bounded WorkshopFault → Type 0
NamesNothing before after result = (result ≡ Ok NotNamed) × (after ≡ before)

abbrev pub BoundsBy : Words → Option Site → Option (List Limit) → Option (List ℕ) → Writer → Writer → Result Bounded WorkshopFault → Type 0
BoundsBy words None limits kept before after result = NamesNothing before after result
BoundsBy words (Some routine) None kept before after result = NamesNothing before after result
BoundsBy words (Some routine) (Some limits) None before after result = NamesNothing before after result
BoundsBy words (Some routine) (Some limits) (Some kept) before after result = WritesBound words kept limits routine before after result

-- or memory is refused, and nothing is written
abbrev pub BoundsRoutine : Words → SymbolTable → Question → Writer → Writer → Result Bounded WorkshopFault → Type 0
BoundsRoutine words symbols q before after result =
    ((result ≡ Err NoMemory) × (after ≡ before))
    ⊎ BoundsBy words (routine_named symbols q.routine) (limits_named symbols [] (texts (runs q.loops)))
    (kept_named symbols [] (texts (runs q.kept))) before after result

-- where a program was read its routine is bounded, and after a fault nothing is written
abbrev pub BoundsThen : Question → Result Code WorkshopFault → Writer → Writer → Result Bounded WorkshopFault → Type 0
BoundsThen q (Ok code) before after result = BoundsRoutine code.0 code.1 q before after result
BoundsThen q (Err fault) before after result = (result ≡ Err fault) × (after ≡ before)

-- a program is read, and what was read decides what is written
pub record Bounds (from : Origin) (q : Question) (before after : Answering) (result : Result Bounded WorkshopFault) : Type 0 where
  pub code : Result Code WorkshopFault
  pub reads : Reads (ReadsProgram from) before.program after.program code
  pub next : BoundsThen q code before.out after.out result
