-- What an engine that runs and notes has read, and what it has written.
use Rattle.std.proofs.Common.{◌≡◌, ℕ, List, Result, Ok, Err, refl, subst, inl}
use Rattle.feed.specs.declared.entry.Entry.{Entry}
use Rattle.json_text.specs.declared.notation.Notation.{Notation}
use Rattle.rope.specs.declared.fault.RopeFault.TheVariants as rope
use Rattle.rope.specs.declared.spelling.Version.{Version}
use Rattle.workshop.specs.declared.engine.Summary.{Summary}
use Rattle.workshop.specs.declared.fault.WorkshopFault.{WorkshopFault}
use Rattle.workshop.specs.declared.fault.WorkshopFault.TheVariants.{NoMemory}
use Rattle.workshop.specs.declared.fault.WorkshopFault.TheVariants as fault
use Rattle.workshop.specs.declared.noting.NamedCode.{NamedCode}
use Rattle.workshop.specs.declared.origin.Origin.{Origin}
use Rattle.workshop.specs.Failures.{Reader}
use Rattle.workshop.specs.Loading.{Files, Reads, ReadsInputs}
use Rattle.workshop.specs.NotedProgress.{TellsNoted, TellsRead, TellsWhole}
use Rattle.workshop.specs.Progress.{Telling, TellsAll, TellsWritten, run_text}
use Rattle.workshop.specs.Runs.{Makes}
use Rattle.cpu.specs.State.{Scenario}
use Rattle.workshop.specs.Notings.{NotesRun, Noting, ReadsNamed, ReadsNamedImage, RunsNoted}

pub noted_by : (notation : Notation) (origin : Origin) (steps : ℕ) (before after : Noting) (code : NamedCode) (inputs : List Entry)
    (r : Result NamedCode WorkshopFault) (i : Result (List Entry) WorkshopFault)
    (result : Result Summary WorkshopFault) → r ≡ Ok code → i ≡ Ok inputs
    → Reads (ReadsNamed origin) before.files.program after.files.program r
    → Reads ReadsInputs before.files.feed after.files.feed i
    → NotesRun notation code (record { rope = code.rope; inputs = inputs }) steps before.texts after.texts result
    → RunsNoted notation origin steps before after result
noted_by notation origin steps before after code inputs r i result e f reads more run = record {
  code = Ok code;
  reads = subst (λ x. Reads (ReadsNamed origin) before.files.program after.files.program x) e reads;
  next = record { inputs = Ok inputs; reads = subst (λ x. Reads ReadsInputs before.files.feed after.files.feed x) f more; next = run };
}

-- nothing of an image was read, and memory ran out
pub no_memory_before : (version : Version) (before : Reader)
    → Reads (λ old new. ReadsNamedImage version old new) before before (Err NoMemory)
no_memory_before version before = record {
  bytes = λ told. record { read = Err rope.NoMemory; reads = refl; full = tt; gives = refl };
  failures = refl;
  writer = refl;
}

-- what a run that is noted tells, once program and feed were read
pub tells_by : (origin : Origin) (steps : ℕ) (old new : Files) (before after : Telling) (code : NamedCode) (inputs : List Entry)
    (r : Result NamedCode WorkshopFault) (i : Result (List Entry) WorkshopFault)
    (result : Result Summary WorkshopFault) → r ≡ Ok code → i ≡ Ok inputs → Reads (ReadsNamed origin) old.program new.program r
    → Reads ReadsInputs old.feed new.feed i
    → TellsNoted (run_text (record { rope = code.rope; inputs = inputs })) steps before after result
    → TellsRead origin steps old new before after result
tells_by origin steps old new before after code inputs r i result e f reads more tells = record {
  code = Ok code;
  reads = subst (λ x. Reads (ReadsNamed origin) old.program new.program x) e reads;
  next = record { inputs = Ok inputs; reads = subst (λ x. Reads ReadsInputs old.feed new.feed x) f more; next = tells };
}

-- where the feed is refused
pub tells_no_feed : (origin : Origin) (steps : ℕ) (old new : Files) (before after : Telling) (code : NamedCode) (fault : WorkshopFault)
    (r : Result NamedCode WorkshopFault) (i : Result (List Entry) WorkshopFault)
    (result : Result Summary WorkshopFault) → r ≡ Ok code → i ≡ Err fault → Reads (ReadsNamed origin) old.program new.program r
    → Reads ReadsInputs old.feed new.feed i
    → after.progress ≡ before.progress → TellsRead origin steps old new before after result
tells_no_feed origin steps old new before after code fault r i result e f reads more same = record {
  code = Ok code;
  reads = subst (λ x. Reads (ReadsNamed origin) old.program new.program x) e reads;
  next = record { inputs = Err fault; reads = subst (λ x. Reads ReadsInputs old.feed new.feed x) f more; next = same };
}

-- where the program is
pub tells_no_code : (origin : Origin) (steps : ℕ) (old new : Files) (before after : Telling) (fault : WorkshopFault)
    (r : Result NamedCode WorkshopFault) (result : Result Summary WorkshopFault)
    → r ≡ Err fault → Reads (ReadsNamed origin) old.program new.program r → after.progress ≡ before.progress
    → TellsRead origin steps old new before after result
tells_no_code origin steps old new before after fault r result e reads same = record {
  code = Err fault;
  reads = subst (λ x. Reads (ReadsNamed origin) old.program new.program x) e reads;
  next = same;
}

-- a run that is broken off as it writes, and one that is made
pub tells_broken : (scenario : Scenario) (steps : ℕ) (before after : Telling) (why : WorkshopFault)
    → Makes scenario steps before.out after.out (Err why)
    → TellsWritten {T = Summary} (run_text scenario) steps before after (Err why)
    → TellsNoted {T = Summary} (run_text scenario) steps before after (Err why)
tells_broken scenario steps before after fault.NoMemory m w = absurd m
tells_broken scenario steps before after fault.ReadFailed m w = absurd m
tells_broken scenario steps before after fault.WriteFailed m w = inl (record { made = w; failures = m.1 })
tells_broken scenario steps before after (fault.Source _) m w = absurd m
tells_broken scenario steps before after (fault.Feed _) m w = absurd m
tells_broken scenario steps before after (fault.Rope _) m w = absurd m
tells_broken scenario steps before after (fault.Table _) m w = absurd m
tells_broken scenario steps before after fault.TooLong m w = absurd m

pub tells_whole : (scenario : Scenario) (steps : ℕ) (before after : Telling) (summary : Summary)
    → Makes scenario steps before.out after.out (Ok summary) → TellsAll steps before.progress after.progress
    → TellsWhole (run_text scenario) steps before after
tells_whole scenario steps before after summary m all = record { written = λ told. (m.0 told).written; failures = m.1; all = all }
