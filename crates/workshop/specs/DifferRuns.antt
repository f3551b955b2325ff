-- What an engine answers that tells where two runs part, and what it has then written.
use Rattle.std.specs.Prelude.{◌≡◌, ℕ, ◌⊎◌, Option, Result, Ok, Err}
use Rattle.differ.specs.DifferText.{Named, differ_text}
use Rattle.workshop.specs.declared.differing.Side.{Side}
use Rattle.workshop.specs.declared.differing.Side.TheVariants as side
use Rattle.workshop.specs.declared.fault.WorkshopFault.{WorkshopFault}
use Rattle.workshop.specs.declared.fault.WorkshopFault.TheVariants.{NoMemory}
use Rattle.workshop.specs.declared.inputs.Loaded.{Loaded}
use Rattle.workshop.specs.declared.origin.Origin.{Origin}
use Rattle.workshop.specs.Failures.{Writer}
use Rattle.workshop.specs.Inputs.{scenario_of}
use Rattle.workshop.specs.Loading.{Files, Loads}
use Rattle.workshop.specs.Ropes.{WritesText}
use Rattle.workshop.specs.Runs.{Running}

-- two programs, each with its feed, and where it is written
pub record Pairing : Type 0 where
  pub one : Files
  pub other : Files
  pub out : Writer

abbrev pub pairing : Files → Files → Writer → Pairing
pairing one other out = record { one = one; other = other; out = out }

-- a run, with the symbols that name its places
abbrev pub named_of : Loaded → Named
named_of l = record { symbols = l.symbols; scenario = scenario_of l }

-- memory is refused, and nothing is written; or what is told of both runs is
abbrev pub DifferRun : Named → Named → ℕ → Option ℕ → Writer → Writer → Result (Unit {0}) WorkshopFault → Type 0
DifferRun one other steps why before after result = ((result ≡ Err NoMemory) × (after ≡ before))
    ⊎ WritesText (differ_text one other steps why) before after result

-- where both were read it is told of them, and after a fault nothing is written
abbrev pub DifferThen : Named → ℕ → Option ℕ → Result Loaded WorkshopFault → Writer → Writer → Result (Unit {0}) WorkshopFault → Type 0
DifferThen one steps why (Ok l) before after result = DifferRun one (named_of l) steps why before after result
DifferThen one steps why (Err fault) before after result = (result ≡ Err fault) × (after ≡ before)

-- the other program and its feed are read beside the first
pub record TellsBeside (from : Origin) (one : Named) (steps : ℕ) (why : Option ℕ) (before after : Running)
    (result : Result (Unit {0}) WorkshopFault) : Type 0 where
  pub loaded : Result Loaded WorkshopFault
  pub loads : Loads from before.files after.files loaded
  pub next : DifferThen one steps why loaded before.out after.out result

abbrev pub BesideThen : Origin → ℕ → Option ℕ → Result Loaded WorkshopFault → Running → Running → Result (Unit {0}) WorkshopFault → Type 0
BesideThen from steps why (Ok l) before after result = TellsBeside from (named_of l) steps why before after result
BesideThen from steps why (Err fault) before after result = (result ≡ Err fault) × (after ≡ before)

-- of which run the files were read last
abbrev pub read_last : Result Loaded WorkshopFault → Side
read_last (Ok l) = side.Other
read_last (Err fault) = side.One

-- a program and its feed are read, and then the other with its own
pub record TellsDiffer (from other : Origin) (steps : ℕ) (why : Option ℕ) (last : Side) (before after : Pairing)
    (result : Result (Unit {0}) WorkshopFault) : Type 0 where
  pub loaded : Result Loaded WorkshopFault
  pub loads : Loads from before.one after.one loaded
  pub side : last ≡ read_last loaded
  pub next : BesideThen other steps why loaded (record { files = before.other; out = before.out })
      (record { files = after.other; out = after.out }) result
