-- What an engine that judges a run has read, and what it has written.
use Rattle.std.proofs.Common.{◌≡◌, ℕ, List, [], ◌++◌, Result, Ok, Err, refl, subst, inl, inr}
use Rattle.std.specs.Prelude.{IfOk}
use Rattle.feed.specs.declared.entry.Entry.{Entry}
use Rattle.json_text.specs.declared.notation.Notation.TheVariants.{Text}
use Rattle.notes.specs.RunNotes.{notes_text}
use Rattle.symbols.specs.Values.{SymbolTable}
use Rattle.yayul.specs.Named.{Named}
use Rattle.cpu.specs.State.{Scenario}
use Rattle.expect.specs.Verdicts.{are_all_met, verdicts}
use Rattle.expect.specs.Watches.{all_judged}
use Rattle.expect.specs.declared.claim.Stated.{Stated}
use Rattle.expect.specs.declared.refusal.Refusal.{Refusal}
use Rattle.expect.specs.declared.watch.Watch.{Watch}
use Rattle.workshop.specs.declared.checking.Tally.{Tally}
use Rattle.workshop.specs.declared.expecting.Judged.{Judged}
use Rattle.workshop.specs.declared.expecting.Judged.TheVariants.{Met}
use Rattle.workshop.specs.declared.fault.WorkshopFault.{WorkshopFault}
use Rattle.workshop.specs.declared.fault.WorkshopFault.TheVariants.{NoMemory}
use Rattle.workshop.specs.Expectations.{Judges, JudgesClaims, JudgesRun, JudgesTests, Source, Subject, Task, read_of}
use Rattle.workshop.specs.Expectations.{checked_for, executed_for, facts, facts_by, made, noted}
use Rattle.workshop.specs.Failures.{Writer}
use Rattle.workshop.specs.Loading.{Reads, ReadsInputs, ReadsText}
use Rattle.workshop.specs.Ropes.{WritesText}
use Rattle.workshop.specs.Runs.{Running}

pub judges_by : (task : Task) (before after : Running) (source : Source) (inputs : List Entry) (r : Result Source WorkshopFault)
    (i : Result (List Entry) WorkshopFault) (result : Result Judged WorkshopFault) → r ≡ Ok source → i ≡ Ok inputs
    → Reads (λ old new. ReadsText (read_of old) old new) before.files.program after.files.program r
    → Reads ReadsInputs before.files.feed after.files.feed i
    → JudgesRun task source inputs before.out after.out result → Judges task before after result
judges_by task before after source inputs r i result e f reads more run = record {
  source = Ok source;
  reads = subst (λ x. Reads (λ old new. ReadsText (read_of old) old new) before.files.program after.files.program x) e reads;
  next = record { inputs = Ok inputs; reads = subst (λ x. Reads ReadsInputs before.files.feed after.files.feed x) f more; next = run };
}

-- where memory ran out nothing is written
pub judges_nothing : (task : Task) (subject : Subject) (scenario : Scenario) (claims : Result (List Stated) Refusal) (out : Writer)
    → JudgesTests task subject scenario claims out out (Err NoMemory)
judges_nothing task subject scenario (Ok claims) out = inl (refl, refl)
judges_nothing task subject scenario (Err refusal) out = (inl refl, refl)

-- where the tests were read their claims are judged
pub judges_read : (task : Task) (subject : Subject) (scenario : Scenario) (read : Result (List Stated) Refusal) (claims : List Stated)
    (before after : Writer) (result : Result Judged WorkshopFault) → read ≡ Ok claims
    → JudgesClaims (made task scenario) subject scenario claims before after result
    → JudgesTests task subject scenario read before after result
judges_read task subject scenario read claims before after result is judges = rw is judges

-- what is known is what claims ask for
pub facts_are : (task : Task) (subject : Subject) (claims : List Stated) (scenario : Scenario) (notes : List ℕ) (r : List ℕ × Tally)
    (executed : ℕ) → notes ≡ noted claims subject.symbols subject.named scenario task.steps → r ≡ checked_for claims task.name subject.text
    → executed ≡ executed_for claims subject.lines scenario task.steps → facts_by notes r executed ≡ facts task subject claims scenario
facts_are task subject claims scenario notes r executed is_noted is_checked is_executed = rw (is_noted, is_checked, is_executed) refl

-- all verdicts are those of what is known
pub judges_all : (task : Task) (subject : Subject) (scenario : Scenario) (claims : List Stated) (notes : List ℕ) (r : List ℕ × Tally)
    (executed : ℕ) (settled : List Watch) (before after : Writer) (result : Result Judged WorkshopFault)
    → notes ≡ noted claims subject.symbols subject.named scenario task.steps → r ≡ checked_for claims task.name subject.text
    → executed ≡ executed_for claims subject.lines scenario task.steps
    → settled ≡ all_judged (facts_by notes r executed) scenario task.steps claims
    → WritesText (verdicts (facts_by notes r executed) 0 settled task.tests) before after result
    → IfOk result (λ answer. answer ≡ Met (are_all_met settled))
    → JudgesClaims task subject scenario claims before after result
judges_all task subject scenario claims notes r executed settled before after result is_noted is_checked is_executed is writes met =
    let same = facts_are task subject claims scenario notes r executed is_noted is_checked is_executed in
    let all : settled ≡ all_judged (facts task subject claims scenario) scenario task.steps claims = rw same at is in
    let text : WritesText (verdicts (facts task subject claims scenario) 0 settled task.tests) before after result = rw same at writes in
    inr (rw all at text, rw all at met)

-- notes that are written to nothing
pub notes_are : (symbols : SymbolTable) (named given : Named) (scenario : Scenario) (n : ℕ) (old new : List ℕ) → old ≡ []
    → named ≡ given → new ≡ old ++ notes_text Text symbols named scenario n → new ≡ notes_text Text symbols given scenario n
notes_are symbols named given scenario n old new none same written = rw (none, same) at written
