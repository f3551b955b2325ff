-- What an engine answers that counts the reads and writes of a run, and what it has then written.
use Rattle.std.specs.Prelude.{◌≡◌, ℕ, ◌⊎◌, Bool, true, false, List, Option, Some, None, Result, Ok, Err, IfOk}
use Rattle.cpu.specs.State.{Scenario}
use Rattle.access.specs.declared.view.View.{View}
use Rattle.access.specs.declared.view.View.TheVariants.{All, One}
use Rattle.access.specs.Accesses.{AccessesAddUp}
use Rattle.access.specs.AccessText.{access_text}
use Rattle.access.specs.Asked.{view_asked}
use Rattle.symbols.specs.Values.{SymbolTable}
use Rattle.workshop.specs.declared.fault.WorkshopFault.{WorkshopFault}
use Rattle.workshop.specs.declared.fault.WorkshopFault.TheVariants.{NoMemory, WriteFailed}
use Rattle.workshop.specs.declared.inputs.Loaded.{Loaded}
use Rattle.workshop.specs.declared.origin.Origin.{Origin}
use Rattle.workshop.specs.Failures.{Writer}
use Rattle.workshop.specs.Inputs.{scenario_of}
use Rattle.workshop.specs.Loading.{Loads}
use Rattle.workshop.specs.Progress.{TellsAll}
use Rattle.workshop.specs.Ropes.{WritesText}
use Rattle.workshop.specs.Runs.{Running}

-- where all cells are counted, all counts add up to the reads and writes of the run
abbrev pub AddsUpIn : View → Scenario → ℕ → Type 0
AddsUpIn All scenario steps = AccessesAddUp scenario steps
AddsUpIn (One c) scenario steps = Unit {0}

-- all steps are made, what they read and write is counted, and the counts are written
abbrev pub Counted : View → SymbolTable → Scenario → ℕ → Writer → Writer → Result Bool WorkshopFault → Type 0
Counted view symbols scenario steps before after result =
    WritesText (access_text view symbols scenario steps) before after result × IfOk result (λ found. found ≡ true)
    × AddsUpIn view scenario steps

-- the cell that is asked for is none, and nothing is written
abbrev pub CountedBy : Option View → SymbolTable → Scenario → ℕ → Writer → Writer → Result Bool WorkshopFault → Type 0
CountedBy None symbols scenario steps before after result = (result ≡ Ok false) × (after ≡ before)
CountedBy (Some view) symbols scenario steps before after result = Counted view symbols scenario steps before after result

-- memory is refused, and nothing is written; or the counts are
abbrev pub CountsRun : Option (List ℕ) → SymbolTable → Scenario → ℕ → Writer → Writer → Result Bool WorkshopFault → Type 0
CountsRun place symbols scenario steps before after result =
    ((result ≡ Err NoMemory) × (after ≡ before)) ⊎ CountedBy (view_asked symbols place) symbols scenario steps before after result

-- where a program and a feed were read their run is counted, and after a fault nothing is written
abbrev pub CountsThen : Option (List ℕ) → ℕ → Result Loaded WorkshopFault → Writer → Writer → Result Bool WorkshopFault → Type 0
CountsThen place steps (Ok l) before after result = CountsRun place l.symbols (scenario_of l) steps before after result
CountsThen place steps (Err fault) before after result = (result ≡ Err fault) × (after ≡ before)

-- a program and a feed are read, and what was read decides what is written
pub record CountsAccesses (place : Option (List ℕ)) (from : Origin) (steps : ℕ) (before after : Running)
    (result : Result Bool WorkshopFault) : Type 0 where
  pub loaded : Result Loaded WorkshopFault
  pub loads : Loads from before.files after.files loaded
  pub next : CountsThen place steps loaded before.out after.out result

-- all steps are told, whether the text could be written or not; and where nothing is counted, nothing is
abbrev pub TellsCounted : ℕ → Writer → Writer → Result Bool WorkshopFault → Type 0
TellsCounted steps before after (Ok true) = TellsAll steps before after
TellsCounted steps before after (Ok false) = after ≡ before
TellsCounted steps before after (Err WriteFailed) = TellsAll steps before after
TellsCounted steps before after (Err _) = after ≡ before
