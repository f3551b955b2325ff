-- What an engine that shows what is reached beside a run answers, and what it has then written.
use Rattle.std.specs.Prelude.{◌≡◌, ◌↔◌, ◌⊎◌, ℕ, Bool, true, List, Result, Ok, Err}
use Rattle.cpu.specs.State.{Scenario}
use Rattle.feed.specs.declared.entry.Entry.{Entry}
use Rattle.cover.specs.declared.shown.Shown.{Shown}
use Rattle.reach.specs.declared.spot.Spot.{Spot}
use Rattle.reach.specs.Executed.{executed, run_roots}
use Rattle.reach.specs.Marks.{AreReached, has, IsSpot}
use Rattle.reach.specs.Named.{with_named}
use Rattle.reach.specs.Roots.{AreShown, all_roots}
use Rattle.reach.specs.ReachText.{shown_text}
use Rattle.reach.specs.RunText.{Found, found_margin}
use Rattle.reach.specs.Ways.{Among, vectors}
use Rattle.workshop.specs.declared.fault.WorkshopFault.{WorkshopFault}
use Rattle.workshop.specs.declared.fault.WorkshopFault.TheVariants.{NoMemory}
use Rattle.workshop.specs.declared.origin.Origin.{Origin}
use Rattle.workshop.specs.declared.addressing.Addressing.{Addressing}
use Rattle.workshop.specs.Addressings.{ReadsAddressing}
use Rattle.workshop.specs.Failures.{Writer}
use Rattle.workshop.specs.Loading.{Reads, ReadsInputs}
use Rattle.workshop.specs.Ropes.{WritesText}
use Rattle.workshop.specs.Runs.{Running}

-- a set has what the steps of a run execute, and nothing else
pub record AreExecuted (scenario : Scenario) (n : ℕ) (marks : List Bool) : Type 0 where
  pub each : (q : Spot) → IsSpot q → ((has marks q ≡ true) ↔ Among q (executed scenario n))

-- what is reached from the vectors, from these and all that so many steps execute, and from all of these and the places that a source
-- names, and what the steps execute, is marked, and roots are found where they are shown, and the text of these is written
pub record WritesFound (lines : Shown) (places : List (ℕ × ℕ)) (scenario : Scenario) (steps : ℕ) (shows : Bool) (before after : Writer)
    (result : Result (Unit {0}) WorkshopFault) : Type 0 where
  pub found : Found
  pub start : AreReached scenario.rope vectors found.start
  pub run : AreReached scenario.rope (run_roots scenario steps) found.run
  pub named : AreReached scenario.rope (with_named places (run_roots scenario steps)) found.named
  pub done : AreExecuted scenario steps found.done
  pub roots : AreShown shows scenario.rope (all_roots scenario steps places) found.roots
  pub writes : WritesText (shown_text (found_margin found) scenario.rope lines) before after result

-- or memory is refused, and nothing is written
abbrev pub FindsRun : Shown → List (ℕ × ℕ) → Scenario → ℕ → Bool → Writer → Writer → Result (Unit {0}) WorkshopFault → Type 0
FindsRun lines places scenario steps shows before after result =
    ((result ≡ Err NoMemory) × (after ≡ before)) ⊎ WritesFound lines places scenario steps shows before after result

-- where the feed was read its run is made, and after a fault nothing is written
abbrev pub FindsThen : Addressing → ℕ → Bool → Result (List Entry) WorkshopFault → Writer → Writer
    → Result (Unit {0}) WorkshopFault → Type 0
FindsThen program steps shows (Ok inputs) before after result =
    FindsRun program.rows program.places (record { rope = program.rope; inputs = inputs }) steps shows before after result
FindsThen program steps shows (Err fault) before after result = (result ≡ Err fault) × (after ≡ before)

pub record FindsNext (program : Addressing) (steps : ℕ) (shows : Bool) (before after : Running) (result : Result (Unit {0}) WorkshopFault)
    : Type 0 where
  pub inputs : Result (List Entry) WorkshopFault
  pub reads : Reads ReadsInputs before.files.feed after.files.feed inputs
  pub next : FindsThen program steps shows inputs before.out after.out result

-- where the program was read the feed is, and after a fault nothing of it
abbrev pub FindsProgram : Result Addressing WorkshopFault → ℕ → Bool → Running → Running → Result (Unit {0}) WorkshopFault → Type 0
FindsProgram (Ok program) steps shows before after result = FindsNext program steps shows before after result
FindsProgram (Err fault) steps shows before after result = (result ≡ Err fault) × (after.files.feed ≡ before.files.feed)
    × (after.out ≡ before.out)

-- a program and a feed are read, and what was read decides what is written, with roots or without
pub record Finds (from : Origin) (steps : ℕ) (shows : Bool) (before after : Running) (result : Result (Unit {0}) WorkshopFault) : Type 0
  where
    pub program : Result Addressing WorkshopFault
    pub reads : Reads (ReadsAddressing from) before.files.program after.files.program program
    pub next : FindsProgram program steps shows before after result
