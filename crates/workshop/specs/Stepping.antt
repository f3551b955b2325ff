-- What is written of the steps of a run, slice by slice, and what is counted.
use Rattle.std.specs.Prelude.{◌≡◌, ℕ, ◌+◌, ◌<◌, ◌≤◌, Bool, true, List, [], ◌++◌, length, Result, Ok, Err}
use Rattle.words.specs.Devices.{IsBeginning, WritesBeginning, one_more}
use Rattle.words.specs.declared.device.WriteFailed as device
use Rattle.cpu.specs.Run.{outs}
use Rattle.cpu.specs.State.{Scenario}
use Rattle.workshop.specs.Failures.{Writer}
use Rattle.workshop.specs.Progress.{TellsAll, TellsMade, Telling}

-- a text that has so many steps is empty before the first, and with one more it begins with that without it
pub record Grows (text : ℕ → List ℕ) : Type 0 where
  pub none : text 0 ≡ []
  pub more : (n : ℕ) → IsBeginning (text n) (text (n + 1))

-- of a text that has so many steps: where that of `done` steps stands, that of n stands afterwards, where that is told
abbrev pub Extends : Bool → (ℕ → List ℕ) → ℕ → ℕ → List ℕ → List ℕ → Type 0
Extends told text done n before after = told ≡ true → (old : List ℕ) → before ≡ old ++ text done → after ≡ old ++ text n

-- it is broken off in the step after those made: what is written has the text of the steps made, and is a beginning of that with one more
pub record BreaksIn (text : ℕ → List ℕ) (done stop : ℕ) (before after : Writer) : Type 0 where
  pub made : ℕ
  pub past : done ≤ made
  pub within : made < stop
  pub whole : before.told ≡ true → (old : List ℕ) → before.written ≡ old ++ text done → IsBeginning (old ++ text made) after.written
  pub broken : before.told ≡ true → (old : List ℕ) → before.written ≡ old ++ text done
      → WritesBeginning old after.written (text (made + 1))
  pub failures : after.failures ≡ one_more before.failures

-- the text of the steps from `done` to those that are answered is written, or it is broken off before `stop`
abbrev pub WritesOn : (ℕ → List ℕ) → ℕ → ℕ → Writer → Writer → Result ℕ device.WriteFailed → Type 0
WritesOn text done stop before after (Ok to) =
    Extends before.told text done to before.written after.written × (after.failures ≡ before.failures)
WritesOn text done stop before after (Err e) = BreaksIn text done stop before after

-- so many lines are those of the outputs of n steps
pub record CountsLines (scenario : Scenario) (n lines : ℕ) : Type 0 where
  pub all : lines ≡ length (outs scenario n)
  pub few : lines ≤ n

-- all steps are told, or where a write has failed those that were made
abbrev pub TellsSteps : (ℕ → List ℕ) → ℕ → Telling → Telling → Result (Unit {0}) device.WriteFailed → Type 0
TellsSteps text steps before after (Ok x) = TellsAll steps before.progress after.progress
TellsSteps text steps before after (Err e) = TellsMade text steps before after
