-- What a run tells while it goes: how many steps it has made.
use Rattle.std.specs.Prelude.{◌≡◌, ℕ, zero, suc, ◌+◌, ◌*◌, ◌/◌, ◌%◌, ◌^◌, ◌<◌, ◌==◌, Bool, true, List, [], ◌++◌, codes, decimal, Result, Ok}
use Rattle.std.specs.Prelude.{Err, if◌then◌else◌}
use Rattle.words.specs.Devices.{IsBeginning, Writes, WritesBeginning, failures_after}
use Rattle.words.specs.declared.device.WriteFailed as device
use Rattle.cpu.specs.ChannelLines.{channel_lines}
use Rattle.cpu.specs.Run.{outs}
use Rattle.cpu.specs.State.{Scenario}
use Rattle.say.specs.declared.form.LineForm.{LineForm}
use Rattle.say.specs.Said.{told_lines}
use Rattle.workshop.specs.Failures.{Writer}
use Rattle.workshop.specs.Inputs.{scenario_of}
use Rattle.workshop.specs.Loading.{Files, Loads}
use Rattle.workshop.specs.declared.fault.WorkshopFault.{WorkshopFault}
use Rattle.workshop.specs.declared.fault.WorkshopFault.TheVariants.{WriteFailed}
use Rattle.workshop.specs.declared.inputs.Loaded.{Loaded}
use Rattle.workshop.specs.declared.origin.Origin.{Origin}

-- after how many steps it is told
abbrev pub steps_between : ℕ
steps_between = 2 ^ 20

-- the line that tells so many steps
unfoldable pub progress_line : ℕ → List ℕ
progress_line n = codes "agcws: STEPS " ++ decimal n ++ codes "\n"

-- the lines that are told in k times
unfoldable pub progress_lines : ℕ → List ℕ
progress_lines zero = []
progress_lines (suc k) = progress_lines k ++ progress_line (steps_between * (k + 1))

-- the lines of a run that has made so many steps
abbrev pub progress_text : ℕ → List ℕ
progress_text n = progress_lines (n / steps_between)

-- what is told after so many steps
abbrev pub progress_at : ℕ → List ℕ
progress_at n = if n % steps_between == 0 then progress_line n else []

-- they are told, where all before was; and nothing once a write has failed
abbrev pub TellsNext : ℕ → Writer → Writer → Result (Unit {0}) device.WriteFailed → Result (Unit {0}) device.WriteFailed → Type 0
TellsNext n before after (Ok x) result =
    (before.told ≡ true → Writes before.written after.written (progress_at n) result)
    × (after.failures ≡ failures_after before.failures result)
TellsNext n before after (Err e) result = (after ≡ before) × (result ≡ Err e)

-- what was told of a run that has made so many steps: all lines, or where a write has failed, a beginning of them
pub record Tells (n : ℕ) (before after : Writer) (told : Result (Unit {0}) device.WriteFailed) : Type 0 where
  pub bytes : before.told ≡ true → Writes before.written after.written (progress_text n) told
  pub failures : after.failures ≡ failures_after before.failures told

-- what was told by a run: where it has made all steps, of these
pub record TellsAll (steps : ℕ) (before after : Writer) : Type 0 where
  pub told : Result (Unit {0}) device.WriteFailed
  pub tells : Tells steps before after told

-- ## Of a run whose text is written when its steps are made
-- all steps are told, whether the text could be written or not; and after any other fault, as where the program or the feed is refused,
-- nothing is
abbrev pub TellsProfile : {T : Type 0} → ℕ → Writer → Writer → Result T WorkshopFault → Type 0
TellsProfile steps before after (Ok x) = TellsAll steps before after
TellsProfile steps before after (Err WriteFailed) = TellsAll steps before after
TellsProfile steps before after (Err _) = after ≡ before

-- ## Of a run that writes while it goes
-- where it writes, and where it tells its steps
pub record Telling : Type 0 where
  pub out : Writer
  pub progress : Writer

abbrev pub telling : Writer → Writer → Telling
telling out progress = record { out = out; progress = progress }

-- it is broken off in the step after those made: of a text that has so many steps, what is written has that of the steps made, and
-- is a beginning of that with one more; and the steps made are told
pub record TellsMade (text : ℕ → List ℕ) (steps : ℕ) (before after : Telling) : Type 0 where
  pub made : ℕ
  pub within : made < steps
  pub whole : before.out.told ≡ true → IsBeginning (before.out.written ++ text made) after.out.written
  pub broken : before.out.told ≡ true → WritesBeginning before.out.written after.out.written (text (made + 1))
  pub told : Result (Unit {0}) device.WriteFailed
  pub tells : Tells made before.progress after.progress told

-- all steps are told, or where a write has failed those that were made
abbrev pub TellsWritten : {T : Type 0} → (ℕ → List ℕ) → ℕ → Telling → Telling → Result T WorkshopFault → Type 0
TellsWritten text steps before after (Ok x) = TellsAll steps before.progress after.progress
TellsWritten text steps before after (Err WriteFailed) = TellsMade text steps before after
TellsWritten text steps before after (Err _) = ⊥

-- where a program and a feed were read the steps of their run are told, and after a fault nothing is
abbrev pub TellsThen : {T : Type 0} → (Loaded → ℕ → List ℕ) → (Loaded → ℕ) → Result Loaded WorkshopFault → Telling → Telling
    → Result T WorkshopFault → Type 0
TellsThen text steps (Ok l) before after result = TellsWritten (text l) (steps l) before after result
TellsThen text steps (Err fault) before after result = after.progress ≡ before.progress

-- a program and a feed are read, and what was read decides what is told
pub record TellsLoaded {T : Type 0} (text : Loaded → ℕ → List ℕ) (from : Origin) (steps : Loaded → ℕ) (old new : Files)
    (before after : Telling) (result : Result T WorkshopFault) : Type 0 where
  pub loaded : Result Loaded WorkshopFault
  pub loads : Loads from old new loaded
  pub next : TellsThen text steps loaded before after result

-- the lines of a run of so many steps
abbrev pub run_text : Scenario → ℕ → List ℕ
run_text scenario n = channel_lines (outs scenario n)

abbrev pub loaded_text : Loaded → ℕ → List ℕ
loaded_text l = run_text (scenario_of l)

-- the lines of those of so many steps that stand from a first one on
abbrev pub traced_text : LineForm → ℕ → Loaded → ℕ → List ℕ
traced_text form first l = told_lines form l.symbols (scenario_of l) first
