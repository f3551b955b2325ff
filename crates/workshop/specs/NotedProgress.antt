-- What a run that is noted tells while it goes.
use Rattle.std.specs.Prelude.{◌≡◌, ◌⊎◌, ℕ, true, List, ◌++◌, Result, Ok, Err}
use Rattle.words.specs.Devices.{one_more}
use Rattle.feed.specs.declared.entry.Entry.{Entry}
use Rattle.workshop.specs.Loading.{Files, Reads, ReadsInputs}
use Rattle.workshop.specs.Notings.{ReadsNamed}
use Rattle.workshop.specs.Progress.{Telling, TellsAll, TellsMade, run_text}
use Rattle.workshop.specs.declared.fault.WorkshopFault.{WorkshopFault}
use Rattle.workshop.specs.declared.fault.WorkshopFault.TheVariants.{WriteFailed}
use Rattle.workshop.specs.declared.noting.NamedCode.{NamedCode}
use Rattle.workshop.specs.declared.origin.Origin.{Origin}

-- its own writer has failed, and the steps that were made are told
pub record TellsBroken (text : ℕ → List ℕ) (steps : ℕ) (before after : Telling) : Type 0 where
  pub made : TellsMade text steps before after
  pub failures : after.out.failures ≡ one_more before.out.failures

-- its lines stand, and all its steps are told
pub record TellsWhole (text : ℕ → List ℕ) (steps : ℕ) (before after : Telling) : Type 0 where
  pub written : before.out.told ≡ true → after.out.written ≡ before.out.written ++ text steps
  pub failures : after.out.failures ≡ before.out.failures
  pub all : TellsAll steps before.progress after.progress

-- all steps are told where they were made, though the notes could not be written; where the run is broken off as it writes, those that were
-- made; after any other fault none
abbrev pub TellsNoted : {T : Type 0} → (ℕ → List ℕ) → ℕ → Telling → Telling → Result T WorkshopFault → Type 0
TellsNoted text steps before after (Ok x) = TellsWhole text steps before after
TellsNoted text steps before after (Err WriteFailed) = TellsBroken text steps before after ⊎ TellsWhole text steps before after
TellsNoted text steps before after (Err _) = after.progress ≡ before.progress

-- where a program and a feed were read the steps of their run are told, and after a fault none
abbrev pub TellsInputs : {T : Type 0} → NamedCode → ℕ → Result (List Entry) WorkshopFault → Telling → Telling → Result T WorkshopFault
    → Type 0
TellsInputs code steps (Ok inputs) before after result = TellsNoted (run_text (record { rope = code.rope; inputs = inputs })) steps before
    after result
TellsInputs code steps (Err fault) before after result = after.progress ≡ before.progress

pub record TellsFeed {T : Type 0} (code : NamedCode) (steps : ℕ) (old new : Files) (before after : Telling)
    (result : Result T WorkshopFault) : Type 0 where
  pub inputs : Result (List Entry) WorkshopFault
  pub reads : Reads ReadsInputs old.feed new.feed inputs
  pub next : TellsInputs code steps inputs before after result

abbrev pub TellsCode : {T : Type 0} → Result NamedCode WorkshopFault → ℕ → Files → Files → Telling → Telling → Result T WorkshopFault
    → Type 0
TellsCode (Ok code) steps old new before after result = TellsFeed code steps old new before after result
TellsCode (Err fault) steps old new before after result = after.progress ≡ before.progress

-- a program is read, and then a feed, and what was read decides what is told
pub record TellsRead {T : Type 0} (from : Origin) (steps : ℕ) (old new : Files) (before after : Telling) (result : Result T WorkshopFault) :
    Type 0 where
  pub code : Result NamedCode WorkshopFault
  pub reads : Reads (ReadsNamed from) old.program new.program code
  pub next : TellsCode code steps old new before after result
