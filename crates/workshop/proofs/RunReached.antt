-- What an engine that shows what is reached beside a run has read, and what it has written.
use Rattle.std.proofs.Common.{◌≡◌, ℕ, Bool, List, Result, Ok, Err, refl, subst}
use Rattle.cpu.specs.State.{Scenario}
use Rattle.feed.specs.declared.entry.Entry.{Entry}
use Rattle.reach.specs.Executed.{Came, HasExecuted}
use Rattle.workshop.specs.declared.fault.WorkshopFault.{WorkshopFault}
use Rattle.workshop.specs.declared.origin.Origin.{Origin}
use Rattle.workshop.specs.declared.addressing.Addressing.{Addressing}
use Rattle.workshop.specs.Addressings.{ReadsAddressing}
use Rattle.workshop.specs.Loading.{Reads, ReadsInputs}
use Rattle.workshop.specs.RunReaches.{AreExecuted, Finds, FindsRun}
use Rattle.workshop.specs.Runs.{Running}

pub finds_by : (origin : Origin) (steps : ℕ) (shows : Bool) (before after : Running) (program : Addressing) (inputs : List Entry)
    (r : Result Addressing WorkshopFault) (i : Result (List Entry) WorkshopFault)
    (result : Result (Unit {0}) WorkshopFault) → r ≡ Ok program → i ≡ Ok inputs
    → Reads (ReadsAddressing origin) before.files.program after.files.program r
    → Reads ReadsInputs before.files.feed after.files.feed i
    → FindsRun program.rows program.places (record { rope = program.rope; inputs = inputs }) steps shows before.out after.out result
    → Finds origin steps shows before after result
finds_by origin steps shows before after program inputs r i result e f reads more run = record {
  program = Ok program;
  reads = subst (λ x. Reads (ReadsAddressing origin) before.files.program after.files.program x) e reads;
  next = record { inputs = Ok inputs; reads = subst (λ x. Reads ReadsInputs before.files.feed after.files.feed x) f more; next = run };
}

pub are_executed : (scenario : Scenario) (n : ℕ) (c : Came) → HasExecuted scenario n c → AreExecuted scenario n c.marks
are_executed scenario n c x = record { each = λ q i. (λ h. x.only q (x.agree.found q i h), λ g. x.agree.marked q (x.all q g)) }
