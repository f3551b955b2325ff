-- What the engine answers that runs a source with holes up to the first one, and what it has then written.
use Rattle.std.specs.Prelude.{◌≡◌, ℕ, true, false, List, codes, Option, None, Some, Result, Ok, Err, IfOk}
use Rattle.cpu.specs.State.{Scenario}
use Rattle.feed.specs.declared.entry.Entry.{Entry}
use Rattle.holes.specs.Holes.{GivesHoles, program_with}
use Rattle.holes.specs.HoleRuns.{first_hole, hole_text, steps_made}
use Rattle.holes.specs.declared.run_to_hole.FoundHole.{FoundHole}
use Rattle.rope.specs.Places.{Words}
use Rattle.yayul.specs.Program.{Program, Source}
use Rattle.yayul.specs.declared.faults.Fault.{Fault}
use Rattle.workshop.specs.declared.engine.Summary.{Summary}
use Rattle.workshop.specs.declared.fault.WorkshopFault.{WorkshopFault}
use Rattle.workshop.specs.declared.holed_run.HoledSummary.{HoledSummary}
use Rattle.workshop.specs.Failures.{Reader, Writer}
use Rattle.workshop.specs.Faults.{of_source_fault}
use Rattle.workshop.specs.Loading.{Reads, ReadsInputs}
use Rattle.workshop.specs.Ropes.{WritesText}
use Rattle.workshop.specs.Runs.{Makes}

-- where the lines of the run go, and where a hole is told
pub record Stopping : Type 0 where
  pub out : Writer
  pub errors : Writer

abbrev pub stopping : Writer → Writer → Stopping
stopping out errors = record { out = out; errors = errors }

-- where the steps were made the hole at which the run stops is told by its line; of a run that comes to none nothing is told
abbrev pub TellsFound : Source → Words → Option FoundHole → Summary → Writer → Writer → Result HoledSummary WorkshopFault → Type 0
TellsFound source words None summary before after result =
    (result ≡ Ok (record { summary = summary; has_stopped = false })) × (after ≡ before)
TellsFound source words (Some hole) summary before after result =
    WritesText (hole_text source words hole) before after result
    × IfOk result (λ r. r ≡ record { summary = summary; has_stopped = true })

abbrev pub FoundThen : Source → Words → Option FoundHole → Result Summary WorkshopFault → Writer → Writer
    → Result HoledSummary WorkshopFault → Type 0
FoundThen source words found (Ok summary) before after result = TellsFound source words found summary before after result
FoundThen source words found (Err fault) before after result = (result ≡ Err fault) × (after ≡ before)

-- the steps before the first hole are made, as a run makes them, and then it is told; or all, where there is none
pub record StopsAtHole (source : Source) (scenario : Scenario) (found : Option FoundHole) (steps : ℕ) (before after : Stopping)
    (result : Result HoledSummary WorkshopFault) : Type 0 where
  pub ran : Result Summary WorkshopFault
  pub makes : Makes scenario (steps_made found steps) before.out after.out ran
  pub next : FoundThen source scenario.rope found ran before.errors after.errors result

-- the run of a program, with the words that are other ones in its holes, and some inputs
abbrev pub RunsHoled : Program → Words → List Entry → ℕ → Stopping → Stopping → Result HoledSummary WorkshopFault → Type 0
RunsHoled p other is steps before after result =
    StopsAtHole p.source (record { rope = p.rope; inputs = is }) (first_hole (record { rope = p.rope; inputs = is }) other steps) steps
    before after result

-- where the feed was read the run is made, and after a fault nothing is written
abbrev pub FedThen : Program → Words → Result (List Entry) WorkshopFault → ℕ → Stopping → Stopping → Result HoledSummary WorkshopFault
    → Type 0
FedThen p other (Ok is) steps before after result = RunsHoled p other is steps before after result
FedThen p other (Err fault) steps before after result = (result ≡ Err fault) × (after ≡ before)

-- what the engine has
pub record HoledRunning : Type 0 where
  pub feed : Reader
  pub texts : Stopping

abbrev pub holed_running : Reader → Stopping → HoledRunning
holed_running feed texts = record { feed = feed; texts = texts }

-- a feed is read beside a program with holes
pub record FeedsHoled (p : Program) (other : Words) (steps : ℕ) (before after : HoledRunning) (result : Result HoledSummary WorkshopFault) :
    Type 0 where
  pub inputs : Result (List Entry) WorkshopFault
  pub reads : Reads ReadsInputs before.feed after.feed inputs
  pub next : FedThen p other inputs steps before.texts after.texts result

-- where the source was assembled the feed is read, and after a fault nothing of it
abbrev pub AssembledThen : Result (Program × Words) Fault → ℕ → HoledRunning → HoledRunning → Result HoledSummary WorkshopFault → Type 0
AssembledThen (Ok p) steps before after result = FeedsHoled p.0 p.1 steps before after result
AssembledThen (Err fault) steps before after result = (result ≡ Err (of_source_fault fault)) × (after ≡ before)

-- a source is assembled with holes, and then a feed is read
pub record RunsToHole (source : List ℕ) (steps : ℕ) (before after : HoledRunning) (result : Result HoledSummary WorkshopFault) : Type 0
  where
    pub assembled : Result (Program × Words) Fault
    pub gives : GivesHoles (program_with (codes "0") source) (program_with (codes "1") source) assembled
    pub next : AssembledThen assembled steps before after result
