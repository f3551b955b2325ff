-- What an engine that traces a run answers, and what it has then written.
use Rattle.std.specs.Prelude.{◌≡◌, ℕ, Result, Ok, Err}
use Rattle.say.specs.declared.form.LineForm.{LineForm}
use Rattle.say.specs.Said.{told_lines}
use Rattle.workshop.specs.declared.fault.WorkshopFault.{WorkshopFault}
use Rattle.workshop.specs.declared.inputs.Loaded.{Loaded}
use Rattle.workshop.specs.declared.origin.Origin.{Origin}
use Rattle.workshop.specs.Failures.{Writer}
use Rattle.workshop.specs.Inputs.{scenario_of}
use Rattle.workshop.specs.Loading.{Loads}
use Rattle.workshop.specs.Ropes.{WritesText}
use Rattle.workshop.specs.Runs.{Running}

-- where a program and a feed were read, the lines of some steps from a first one on are written, and after a fault nothing
abbrev pub TracesThen : LineForm → ℕ → ℕ → Result Loaded WorkshopFault → Writer → Writer → Result (Unit {0}) WorkshopFault → Type 0
TracesThen form first steps (Ok l) before after result = WritesText (told_lines form l.symbols (scenario_of l) first steps) before after
    result
TracesThen form first steps (Err fault) before after result = (result ≡ Err fault) × (after ≡ before)

-- a program and a feed are read, and what was read decides what is written
pub record Traces (form : LineForm) (from : Origin) (first steps : ℕ) (before after : Running) (result : Result (Unit {0}) WorkshopFault) :
    Type 0 where
  pub loaded : Result Loaded WorkshopFault
  pub loads : Loads from before.files after.files loaded
  pub next : TracesThen form first steps loaded before.out after.out result
