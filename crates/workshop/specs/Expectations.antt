-- What an engine answers that judges a run by a text of tests, and what it has then written.
use Rattle.std.specs.Prelude.{◌≡◌, ℕ, ◌⊎◌, Bool, false, List, [], map, Result, Ok, Err, IfOk, if◌then◌else◌}
use Rattle.agc_text.specs.Lines.{lines}
use Rattle.json_text.specs.declared.notation.Notation.TheVariants.{Text}
use Rattle.feed.specs.declared.entry.Entry.{Entry}
use Rattle.symbols.specs.Values.{SymbolTable}
use Rattle.yayul.specs.Named.{Named, named_places}
use Rattle.yayul.specs.Program.{Program, Source as Lines}
use Rattle.yayul.specs.Survey.{told}
use Rattle.yayul.specs.declared.language.Language.TheVariants.{Standard}
use Rattle.diagnostics.specs.Report.{report}
use Rattle.cpu.specs.State.{Scenario}
use Rattle.notes.specs.RunNotes.{notes_text}
use Rattle.expect.specs.Facts.{Facts, ask_for_check, ask_for_notes, ask_for_instructions}
use Rattle.expect.specs.Statements.{Statement, statements}
use Rattle.expect.specs.Texts.{claims_after}
use Rattle.expect.specs.Verdicts.{are_all_met, verdicts}
use Rattle.expect.specs.Watches.{all_judged}
use Rattle.expect.specs.declared.claim.Stated.{Stated}
use Rattle.expect.specs.declared.heading.Expectation.{Expectation}
use Rattle.expect.specs.declared.refusal.Refusal.{Refusal}
use Rattle.idle.specs.Idling.{steps_until_idle}
use Rattle.workshop.specs.declared.checking.Tally.{Tally}
use Rattle.workshop.specs.declared.expecting.Judged.{Judged}
use Rattle.workshop.specs.declared.expecting.Judged.TheVariants.{Refused, Met}
use Rattle.workshop.specs.declared.fault.WorkshopFault.{WorkshopFault}
use Rattle.workshop.specs.declared.fault.WorkshopFault.TheVariants.{NoMemory}
use Rattle.workshop.specs.Checks.{cautions_in, tally}
use Rattle.workshop.specs.Executed.{executed}
use Rattle.workshop.specs.Failures.{Writer}
use Rattle.workshop.specs.Inputs.{assembled}
use Rattle.workshop.specs.Loading.{Reads, ReadsInputs, ReadsText}
use Rattle.workshop.specs.Ropes.{WritesText}
use Rattle.workshop.specs.Runs.{Running}

-- what a text of tests asks for: the name of the source, how many steps are made, whether fewer are where the program idles before, and
-- the tests
pub record Task : Type 0 where
  pub name : List ℕ
  pub steps : ℕ
  pub until_idle : Bool
  pub tests : List Statement

abbrev pub task_of : Expectation → Task
task_of e =
    record { name = e.source.now; steps = e.steps; until_idle = e.until_idle; tests = statements e.line (lines e.tests.now) }

-- the same with the steps that are made
abbrev pub steps_made : Task → Scenario → ℕ
steps_made task scenario = if task.until_idle then steps_until_idle scenario task.steps else task.steps

abbrev pub made : Task → Scenario → Task
made task scenario =
    record { name = task.name; steps = steps_made task scenario; until_idle = task.until_idle; tests = task.tests }

-- ## What is known of a run beside its steps
-- the notes of n steps, where some claim asks for them
abbrev pub noted : List Stated → SymbolTable → Named → Scenario → ℕ → List ℕ
noted claims symbols named scenario n = if ask_for_notes claims then notes_text Text symbols named scenario n else []

-- what `check` tells of a source of a name, and how many errors and warnings that are
abbrev pub checked : List ℕ → List ℕ → List ℕ × Tally
checked name source =
    (report Text Standard name source (told Standard source) (cautions_in Standard false source), tally Standard false source)

-- the same where some claim asks for it
abbrev pub checked_for : List Stated → List ℕ → List ℕ → List ℕ × Tally
checked_for claims name source = if ask_for_check claims then checked name source else ([], record { errors = 0; warnings = 0 })

-- how many instructions of a source n steps have executed, where some claim asks for it
abbrev pub executed_for : List Stated → Lines → Scenario → ℕ → ℕ
executed_for claims lines scenario n = if ask_for_instructions claims then executed lines scenario n else 0

abbrev pub facts_by : List ℕ → List ℕ × Tally → ℕ → Facts
facts_by notes r executed =
    record { notes = notes; report = r.0; errors = r.1.errors; warnings = r.1.warnings; executed = executed }

-- a source that is judged: its text, its lines as they were assembled, its symbols, and the places that its words name
pub record Subject : Type 0 where
  pub text : List ℕ
  pub lines : Lines
  pub symbols : SymbolTable
  pub named : Named

abbrev pub facts : Task → Subject → List Stated → Scenario → Facts
facts task subject claims scenario =
    facts_by (noted claims subject.symbols subject.named scenario task.steps) (checked_for claims task.name subject.text)
    (executed_for claims subject.lines scenario task.steps)

-- ## What is answered, and written
-- memory is refused, and nothing is written; or the verdicts on some claims of a run are written, and it is answered whether all are met
abbrev pub JudgesBy : Facts → Task → Scenario → List Stated → Writer → Writer → Result Judged WorkshopFault → Type 0
JudgesBy known task scenario claims before after result =
    ((result ≡ Err NoMemory) × (after ≡ before))
    ⊎ (WritesText (verdicts known 0 (all_judged known scenario task.steps claims) task.tests) before after result
    × IfOk result (λ answer. answer ≡ Met (are_all_met (all_judged known scenario task.steps claims))))

abbrev pub JudgesClaims : Task → Subject → Scenario → List Stated → Writer → Writer → Result Judged WorkshopFault → Type 0
JudgesClaims task subject scenario claims before after result =
    JudgesBy (facts task subject claims scenario) task scenario claims before after result

-- where the tests are refused that is answered, and nothing is written
abbrev pub JudgesTests : Task → Subject → Scenario → Result (List Stated) Refusal → Writer → Writer → Result Judged WorkshopFault → Type 0
JudgesTests task subject scenario (Ok claims) before after result =
    JudgesClaims (made task scenario) subject scenario claims before after result
JudgesTests task subject scenario (Err refusal) before after result =
    ((result ≡ Err NoMemory) ⊎ (result ≡ Ok (Refused refusal))) × (after ≡ before)

-- a program that is judged, with the text of its source
abbrev pub Source : Type 0
Source = List ℕ × Program

abbrev pub subject_of : Source → Subject
subject_of s = record { text = s.0; lines = s.1.source; symbols = s.1.symbols; named = named_places s.1 }

-- the tests of a run are judged by its program
abbrev pub JudgesRun : Task → Source → List Entry → Writer → Writer → Result Judged WorkshopFault → Type 0
JudgesRun task source inputs before after result =
    JudgesTests task (subject_of source) (record { rope = source.1.rope; inputs = inputs })
    (claims_after source.1.symbols 0 task.tests) before after result

-- where the feed was read the run is judged, and after a fault nothing is written
abbrev pub JudgesThen : Task → Source → Result (List Entry) WorkshopFault → Writer → Writer → Result Judged WorkshopFault → Type 0
JudgesThen task source (Ok inputs) before after result = JudgesRun task source inputs before after result
JudgesThen task source (Err fault) before after result = (result ≡ Err fault) × (after ≡ before)

pub record JudgesNext (task : Task) (source : Source) (before after : Running) (result : Result Judged WorkshopFault) : Type 0 where
  pub inputs : Result (List Entry) WorkshopFault
  pub reads : Reads ReadsInputs before.files.feed after.files.feed inputs
  pub next : JudgesThen task source inputs before.out after.out result

-- where the source was read the feed is, and after a fault nothing of it
abbrev pub JudgesSource : Task → Result Source WorkshopFault → Running → Running → Result Judged WorkshopFault → Type 0
JudgesSource task (Ok source) before after result = JudgesNext task source before after result
JudgesSource task (Err fault) before after result = (result ≡ Err fault) × (after.files.feed ≡ before.files.feed) × (after.out ≡ before.out)

-- a program with the text of its source, or the fault of the source
abbrev pub with_text : List ℕ → Result Program WorkshopFault → Result Source WorkshopFault
with_text text (Ok p) = Ok (text, p)
with_text text (Err fault) = Err fault

abbrev pub read_of : List ℕ → Result Source WorkshopFault
read_of text = with_text text (assembled Standard text)

-- a source and a feed are read, and what was read decides what is judged
pub record Judges (task : Task) (before after : Running) (result : Result Judged WorkshopFault) : Type 0 where
  pub source : Result Source WorkshopFault
  pub reads : Reads (λ old new. ReadsText (read_of old) old new) before.files.program after.files.program source
  pub next : JudgesSource task source before after result
