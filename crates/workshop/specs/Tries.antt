-- What an engine answers that tries inputs, and what it has then written.
use Rattle.std.specs.Prelude.{◌≡◌, ℕ, ◌⊎◌, true, List, Result, Ok, Err}
use Rattle.words.specs.Devices.{Writes}
use Rattle.cpu.specs.State.{Scenario}
use Rattle.feed.specs.Feed.{inputs}
use Rattle.feed.specs.declared.entry.Entry.{Entry}
use Rattle.feed.specs.declared.entry.Plain.{Plain}
use Rattle.rope.specs.Places.{Words}
use Rattle.whatif.specs.Spans.{whatif_text}
use Rattle.workshop.specs.declared.fault.WorkshopFault.{WorkshopFault}
use Rattle.workshop.specs.declared.fault.WorkshopFault.TheVariants.{NoMemory}
use Rattle.workshop.specs.declared.origin.Origin.{Origin}
use Rattle.workshop.specs.Failures.{Writer, failures_if, has_write_failed}
use Rattle.workshop.specs.Inputs.{Code, of_feed}
use Rattle.workshop.specs.Loading.{Answering, Reads, ReadsProgram}

-- what is told of a run and of some trials is written: all of it, or a beginning of it after a fault; the writer has failed exactly where
-- that is answered
pub record WritesTrials (scenario : Scenario) (trials : List Plain) (steps : ℕ) (before after : Writer)
    (result : Result (Unit {0}) WorkshopFault) : Type 0 where
  pub written : before.told ≡ true → Writes before.written after.written (whatif_text scenario trials steps) result
  pub failures : after.failures ≡ failures_if (has_write_failed result) before.failures

-- where the feed has a fault that is answered, and nothing is written
abbrev pub TriesBy : Words → List Plain → ℕ → Result (List Entry) WorkshopFault → Writer → Writer → Result (Unit {0}) WorkshopFault → Type 0
TriesBy rope trials steps (Ok list) before after result = WritesTrials (record { rope = rope; inputs = list }) trials steps before after
    result
TriesBy rope trials steps (Err fault) before after result = (result ≡ Err fault) × (after ≡ before)

-- memory is refused, and nothing is written; or the text of the feed decides
abbrev pub TriesFeed : Words → List ℕ → List Plain → ℕ → Writer → Writer → Result (Unit {0}) WorkshopFault → Type 0
TriesFeed rope feed trials steps before after result =
    ((result ≡ Err NoMemory) × (after ≡ before)) ⊎ TriesBy rope trials steps (of_feed (inputs feed)) before after result

abbrev pub TriesThen : List ℕ → List Plain → ℕ → Result Code WorkshopFault → Writer → Writer → Result (Unit {0}) WorkshopFault → Type 0
TriesThen feed trials steps (Ok code) before after result = TriesFeed code.0 feed trials steps before after result
TriesThen feed trials steps (Err fault) before after result = (result ≡ Err fault) × (after ≡ before)

-- a program is read, and what was read decides what is told
pub record Tries (from : Origin) (feed : List ℕ) (trials : List Plain) (steps : ℕ) (before after : Answering)
    (result : Result (Unit {0}) WorkshopFault) : Type 0 where
  pub code : Result Code WorkshopFault
  pub reads : Reads (ReadsProgram from) before.program after.program code
  pub next : TriesThen feed trials steps code before.out after.out result
