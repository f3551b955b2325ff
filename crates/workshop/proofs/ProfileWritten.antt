-- What an engine that profiles a run has read, and what it has written.
use Rattle.std.proofs.Common.{◌≡◌, ℕ, List, Option, Result, Ok, Err, refl, subst}
use Rattle.feed.specs.declared.entry.Entry.{Entry}
use Rattle.rope.specs.declared.fault.RopeFault.TheVariants as rope
use Rattle.rope.specs.declared.spelling.Version.{Version}
use Rattle.json_text.specs.declared.notation.Notation.{Notation}
use Rattle.symbols.specs.Values.{SymbolTable}
use Rattle.workshop.specs.declared.fault.WorkshopFault.{WorkshopFault}
use Rattle.workshop.specs.declared.fault.WorkshopFault.TheVariants.{NoMemory}
use Rattle.workshop.specs.declared.origin.Origin.{Origin}
use Rattle.workshop.specs.Covers.{Covers, CoversRun, ReadsImaged, ReadsSubject, Subject}
use Rattle.workshop.specs.Failures.{Reader}
use Rattle.workshop.specs.Loading.{Reads, ReadsInputs}
use Rattle.workshop.specs.Runs.{Running}

pub covers_by : (notation : Notation) (origin : Origin) (steps : ℕ) (before after : Running) (subject : Subject) (inputs : List Entry)
    (r : Result Subject WorkshopFault) (i : Result (List Entry) WorkshopFault)
    (result : Result (Unit {0}) WorkshopFault) → r ≡ Ok subject → i ≡ Ok inputs
    → Reads (ReadsSubject notation origin) before.files.program after.files.program r
    → Reads ReadsInputs before.files.feed after.files.feed i
    → CoversRun notation subject.1 (record { rope = subject.0; inputs = inputs }) steps before.out after.out result
    → Covers notation origin steps before after result
covers_by notation origin steps before after subject inputs r i result e f reads more run = record {
  subject = Ok subject;
  reads = subst (λ x. Reads (ReadsSubject notation origin) before.files.program after.files.program x) e reads;
  next = record { inputs = Ok inputs; reads = subst (λ x. Reads ReadsInputs before.files.feed after.files.feed x) f more; next = run };
}

-- nothing of an image was read, and memory ran out
pub no_memory_before : (version : Version) (names : Option SymbolTable) (before : Reader)
    → Reads {T = Subject} (λ old new. ReadsImaged version names old new) before before (Err NoMemory)
no_memory_before version names before = record {
  bytes = λ told. record { read = Err rope.NoMemory; reads = refl; full = tt; gives = refl };
  failures = refl;
  writer = refl;
}
