-- What an engine answers that tells how long interrupts of a run waited, and what it has then written.
use Rattle.std.specs.Prelude.{◌≡◌, ℕ, ◌⊎◌, Result, Ok, Err}
use Rattle.cpu.specs.State.{Scenario}
use Rattle.delays.specs.DelayText.{delays_text}
use Rattle.delays.specs.Spans.{CyclesAddUp}
use Rattle.symbols.specs.Values.{SymbolTable}
use Rattle.workshop.specs.declared.fault.WorkshopFault.{WorkshopFault}
use Rattle.workshop.specs.declared.fault.WorkshopFault.TheVariants.{NoMemory}
use Rattle.workshop.specs.declared.inputs.Loaded.{Loaded}
use Rattle.workshop.specs.declared.origin.Origin.{Origin}
use Rattle.workshop.specs.Failures.{Writer}
use Rattle.workshop.specs.Inputs.{scenario_of}
use Rattle.workshop.specs.Loading.{Loads}
use Rattle.workshop.specs.Ropes.{WritesText}
use Rattle.workshop.specs.Runs.{Running}

-- memory is refused, and nothing is written; or all steps are made and what is told of them is written, and each cycle is of one cause
abbrev pub DelaysRun : SymbolTable → Scenario → ℕ → Writer → Writer → Result (Unit {0}) WorkshopFault → Type 0
DelaysRun symbols scenario steps before after result =
    ((result ≡ Err NoMemory) × (after ≡ before)) ⊎
    (WritesText (delays_text symbols scenario steps) before after result × CyclesAddUp scenario steps)

-- where a program and a feed were read their run is told, and after a fault nothing is written
abbrev pub DelaysThen : ℕ → Result Loaded WorkshopFault → Writer → Writer → Result (Unit {0}) WorkshopFault → Type 0
DelaysThen steps (Ok l) before after result = DelaysRun l.symbols (scenario_of l) steps before after result
DelaysThen steps (Err fault) before after result = (result ≡ Err fault) × (after ≡ before)

-- a program and a feed are read, and what was read decides what is written
pub record TellsDelays (from : Origin) (steps : ℕ) (before after : Running) (result : Result (Unit {0}) WorkshopFault) : Type 0 where
  pub loaded : Result Loaded WorkshopFault
  pub loads : Loads from before.files after.files loaded
  pub next : DelaysThen steps loaded before.out after.out result
