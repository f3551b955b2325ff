-- What is to be done where a command line gives some arguments.
use Rattle.std.specs.Prelude.{ℕ, ◌-◌, ◌^◌, Bool, true, false, List, Option, Some, None, min, nat_lt, nat_le, ◌||◌, is_some, if◌then◌else◌}
use Rattle.std.specs.Borrow.{Bor}
use Rattle.json_text.specs.declared.notation.Notation.{Notation}
use Rattle.json_text.specs.declared.notation.Notation.TheVariants.{Text, Json}
use Rattle.rope.specs.declared.form.Form.{Form}
use Rattle.rope.specs.declared.form.Form.TheVariants.{AsWritten, ParityIgnored, Hardware, HardwareParityIgnored}
use Rattle.rope.specs.declared.spelling.Version.{Version}
use Rattle.rope.specs.declared.spelling.Version.TheVariants as version
use Rattle.yayul.specs.declared.language.Language.{Language}
use Rattle.yayul.specs.declared.language.Language.TheVariants.{Standard, Flight}
use Rattle.arguments.specs.declared.Arguments.{Arguments}
use Rattle.arguments.specs.declared.Arguments.TheVariants as asked
use Rattle.arguments.specs.declared.ImageVersion.{ImageVersion}
use Rattle.arguments.specs.declared.ImageVersion.TheVariants as named
use Rattle.arguments.specs.declared.ImageArguments.{ImageArguments}
use Rattle.arguments.specs.declared.ProgramArguments.{ProgramArguments}
use Rattle.arguments.specs.declared.AsmArguments.{AsmArguments}
use Rattle.arguments.specs.declared.RunArguments.{RunArguments}
use Rattle.arguments.specs.declared.TraceArguments.{TraceArguments}
use Rattle.arguments.specs.declared.CoverArguments.{CoverArguments}
use Rattle.arguments.specs.declared.ReachArguments.{ReachArguments}
use Rattle.arguments.specs.declared.ReachRun.{ReachRun as RunOf}
use Rattle.arguments.specs.declared.AccessArguments.{AccessArguments}
use Rattle.arguments.specs.declared.BoundArguments.{BoundArguments}
use Rattle.arguments.specs.declared.DelaysArguments.{DelaysArguments}
use Rattle.arguments.specs.declared.WhatIfArguments.{WhatIfArguments}
use Rattle.arguments.specs.declared.DifferArguments.{DifferArguments}
use Rattle.arguments.specs.declared.DebugArguments.{DebugArguments}
use Rattle.arguments.specs.declared.CheckArguments.{CheckArguments}
use Rattle.arguments.specs.declared.WordsArguments.{WordsArguments}
use Rattle.arguments.specs.declared.CompareArguments.{CompareArguments}
use Rattle.arguments.specs.declared.DamagesArguments.{DamagesArguments}
use Rattle.arguments.specs.declared.SumsArguments.{SumsArguments}
use Rattle.plans.specs.declared.plan.Plan.{Plan}
use Rattle.plans.specs.declared.plan.Verdicts.{Verdicts}
use Rattle.plans.specs.declared.plan.Verdicts.TheVariants.{Lines, Tap, Junit}
use Rattle.plans.specs.declared.plan.Plan.TheVariants.{Assemble, AssembleWithSums, Run, Trace, Cover, Reach, ReachRun, Debug, DebugExtended}
use Rattle.plans.specs.declared.plan.Plan.TheVariants.{Check, Explain, Upgrade, Show, Compare, CompareOnly, Sum, SumBothForms, ShowParity}
use Rattle.plans.specs.declared.plan.Plan.TheVariants.{ShowDamages, ShowMended, NoSteps, TooManySteps, Access, Bound}
use Rattle.plans.specs.declared.plan.Plan.TheVariants.{Delays, Differ, Align, Carry}
use Rattle.plans.specs.declared.plan.Plan.TheVariants.{AssembleWithHoles, Find, Expect, WhatIf}
use Rattle.plans.specs.declared.plan.Plan.TheVariants.{AssembleFilledWithSums, CompareBanks, SumsOfHoles}
use Rattle.arguments.specs.declared.AlignArguments.{AlignArguments}
use Rattle.arguments.specs.declared.FindArguments.{FindArguments}
use Rattle.plans.specs.declared.plan.Assembly.{Assembly}
use Rattle.plans.specs.declared.plan.Image.{Image}
use Rattle.plans.specs.declared.plan.Program.{Program}
use Rattle.plans.specs.declared.plan.Listed.{Listed}
use Rattle.plans.specs.declared.plan.Kind.{Kind}
use Rattle.plans.specs.declared.plan.Kind.TheVariants as kind
use Rattle.plans.specs.declared.plan.Shown.{Shown}
use Rattle.plans.specs.declared.plan.Shown.TheVariants.{Crossed, Holed, Instructions, Named, NamedSource, Source, Octals}
use Rattle.plans.specs.declared.plan.Words.{Words}

-- how the bytes of an image are taken, by --form hardware and --parity ignore
abbrev pub form_of : Bool → Bool → Form
form_of false false = AsWritten
form_of false true = ParityIgnored
form_of true false = Hardware
form_of true true = HardwareParityIgnored

-- a version, by its name
abbrev pub version_named : ImageVersion → Version
version_named named.One = version.One
version_named named.Two = version.Two

-- the version in which an image is read: with --parity ignore the lowest bits are 0, as in version 1, whatever version is named
abbrev pub version_of : Bool → ImageVersion → Version
version_of true _ = version.One
version_of false name = version_named name

-- the language of a source, by --flight
abbrev pub language_of : Bool → Language
language_of false = Standard
language_of true = Flight

-- an image that is read
abbrev pub image_of : ImageArguments → Image
image_of a = record {
  path = a.path;
  form = form_of a.is_hardware a.is_parity_ignored;
  layout = a.layout;
  version = version_of a.is_parity_ignored a.version;
}

-- what the file of a program is: with --image an image, else a source
abbrev pub kind_of : Bool → Bool → ImageArguments → Kind
kind_of is_image is_flight file = if is_image then kind.Image (version_of file.is_parity_ignored file.version) else kind.Source
    (language_of is_flight)

-- a program that is run
abbrev pub program_of : ProgramArguments → Program
program_of a = record {
  path = a.file.path;
  form = form_of a.file.is_hardware a.file.is_parity_ignored;
  kind = kind_of a.is_image a.is_flight a.file;
  symbols = a.symbols;
  feed = a.feed;
}

-- in which form verdicts are told, by --tap and --junit
abbrev pub verdicts_of : Bool → Bool → Verdicts
verdicts_of true junit = Tap
verdicts_of false true = Junit
verdicts_of false false = Lines

-- in which notation rows are written, by --json
abbrev pub notation_of : Bool → Notation
notation_of false = Text
notation_of true = Json

-- what is done with so many steps, where a run may have them
abbrev pub with_steps : ℕ → Plan → Plan
with_steps steps p = if nat_le steps (2 ^ 40 - 2) then p else TooManySteps

-- a run
abbrev pub run_of : RunArguments → Plan
run_of a = with_steps a.steps (Run (record {
  program = program_of a.program;
  steps = a.steps;
  until_idle = a.until_idle;
  has_holes = a.has_holes;
  tells_progress = a.tells_progress;
  tells_notes = a.tells_notes;
  notation = notation_of a.is_json;
  tells_end = a.tells_end;
}))

-- the first step that is shown: that of --from, or 1
abbrev pub first_of : Option ℕ → ℕ
first_of (Some first) = first
first_of None = 1

-- the last one: that of --to, or N where that is less or none is given
abbrev pub last_of : Option ℕ → ℕ → ℕ
last_of (Some last) steps = min last steps
last_of None steps = steps

-- the step of --to is before the first one
abbrev pub is_before : Option ℕ → ℕ → Bool
is_before (Some last) first = nat_lt last first
is_before None _ = false

-- a trace
abbrev pub trace_of : TraceArguments → Plan
trace_of a =
    if is_before a.last (first_of a.first) then NoSteps
    else with_steps (last_of a.last a.steps) (Trace (record {
      program = program_of a.program;
      first = first_of a.first;
      last = last_of a.last a.steps;
      shows_reads = a.shows_reads;
      says = a.says;
      tells_progress = a.tells_progress;
    }))

-- a profile
abbrev pub cover_of : CoverArguments → Plan
cover_of a = with_steps a.steps (Cover (record {
  program = program_of a.program;
  steps = a.steps;
  tells_progress = a.tells_progress;
  notation = notation_of a.is_json;
}))

-- a program that is shown
abbrev pub listed_of : ReachArguments → Listed
listed_of a = record {
  path = a.file.path;
  form = form_of a.file.is_hardware a.file.is_parity_ignored;
  kind = kind_of a.is_image a.is_flight a.file;
  symbols = a.symbols;
}

-- the same, with a feed
abbrev pub run_of_listed : Listed → Bor (List ℕ) → Program
run_of_listed l feed = record { path = l.path; form = l.form; kind = l.kind; symbols = l.symbols; feed = feed }

-- what is reached, beside a run or not
abbrev pub reach_by : Listed → Bool → Option RunOf → Plan
reach_by l roots None = Reach (record { listed = l; shows_roots = roots })
reach_by l roots (Some run) =
    with_steps run.steps (ReachRun (record { program = run_of_listed l run.feed; steps = run.steps; shows_roots = roots }))

abbrev pub reach_of : ReachArguments → Plan
reach_of a = reach_by (listed_of a) a.shows_roots a.run

-- the most cycles of a routine
abbrev pub bound_of : BoundArguments → Plan
bound_of a = Bound (record { listed = listed_of a.listed; name = a.routine; loops = a.loops; kept = a.kept })

-- the reads and writes of a run
abbrev pub access_of : AccessArguments → Plan
access_of a = with_steps a.steps (Access (record {
  program = program_of a.program;
  steps = a.steps;
  place = a.place;
  tells_progress = a.tells_progress;
}))

-- how long the interrupts of a run waited
abbrev pub delays_of : DelaysArguments → Plan
delays_of a = with_steps a.steps (Delays (record {
  program = program_of a.program;
  steps = a.steps;
  tells_progress = a.tells_progress;
}))

-- inputs that are tried
abbrev pub whatif_of : WhatIfArguments → Plan
whatif_of a = with_steps a.steps (WhatIf (record {
  program = program_of a.program;
  steps = a.steps;
  path = a.trials;
  tells_notes = a.tells_notes;
}))

-- two runs beside each other
abbrev pub differ_of : DifferArguments → Plan
differ_of a = with_steps a.steps (Differ (record {
  program = program_of a.program;
  other = program_of a.other;
  steps = a.steps;
  why = a.why;
}))

-- a session
abbrev pub debug_of : DebugArguments → Plan
debug_of a = if a.is_extended then DebugExtended (program_of a.program) else Debug (program_of a.program)

-- a source to be assembled
abbrev pub assembly_of : AsmArguments → Assembly
assembly_of a = record {
  source = record { path = a.source; language = language_of a.is_flight; assumed = a.assumed };
  rope = a.rope;
  version = version_named a.version;
  tells_uses = a.has_xref;
}

-- check words beside holes: a bank with a hole has no sum until an image fills it
abbrev pub summed_of : Assembly → Option (Bor (List ℕ)) → Plan
summed_of assembly (Some file) = AssembleFilledWithSums assembly file
summed_of assembly None = SumsOfHoles

-- an assembly with holes, which take their words of the image of --fill, and with --sums with check words
abbrev pub holed_of : AsmArguments → Plan
holed_of a = if a.has_sums then summed_of (assembly_of a) a.filling else AssembleWithHoles (assembly_of a) a.filling

-- an assembly: with --holes with holes, and with --sums with check words
abbrev pub asm_of : AsmArguments → Plan
asm_of a =
    if a.has_holes then holed_of a
    else if a.has_sums then AssembleWithSums (assembly_of a)
    else Assemble (assembly_of a)

-- a check
abbrev pub check_of : CheckArguments → Plan
check_of a = Check (record {
  source = record { path = a.source; language = language_of a.is_flight; assumed = a.assumed };
  feeds = a.feeds;
  tells_unused = a.tells_unused;
  notation = notation_of a.is_json;
})

-- how words are shown: with the names of a table where one is given, and with --xref as a cross-reference of these, with --holes with
-- those of a flight source; as a source with --source, or as octal words with --octal
abbrev pub shown_of : Option (Bor (List ℕ)) → Bool → Bool → Bool → Bool → Shown
shown_of (Some table) true _ _ _ = NamedSource table
shown_of (Some table) false _ true _ = Crossed table
shown_of (Some source) false _ false true = Holed source
shown_of (Some table) false _ false false = Named table
shown_of None true _ _ _ = Source
shown_of None false true _ _ = Octals
shown_of None false false _ _ = Instructions

-- the bank of a number
abbrev pub bank_of : Option ℕ → Option ℕ
bank_of (Some number) = if nat_lt number 0o50 then Some number else None
bank_of None = None

-- words that are shown
abbrev pub words_of : WordsArguments → Words
words_of a = record {
  image = image_of a.image;
  bank = bank_of a.bank;
  shown = shown_of a.symbols a.is_source a.is_octal a.has_xref a.has_holes;
  tells_where = a.tells_where;
}

-- a comparison of a source: with --holes, --banks or --assume with an account of each bank
abbrev pub compare_only_of : CompareArguments → Plan
compare_only_of a =
    if a.has_holes || a.has_banks || is_some a.assumed
    then CompareBanks (record { path = a.old.path; language = language_of a.is_flight; assumed = a.assumed }) (image_of a.new)
    a.has_holes
    else CompareOnly (record { path = a.old.path; language = language_of a.is_flight; assumed = a.assumed }) (image_of a.new)

-- a comparison: with --only of a source
abbrev pub compare_of : CompareArguments → Plan
compare_of a = if a.is_source then compare_only_of a else Compare (image_of a.old) (image_of a.new)

-- an alignment, with --symbols of names
abbrev pub aligned : Option (Bor (List ℕ)) → Image → Image → Plan
aligned (Some table) old new = Carry table old new
aligned None old new = Align old new

abbrev pub align_of : AlignArguments → Plan
align_of a = aligned a.symbols (image_of a.old) (image_of a.new)

-- a passage that is found
abbrev pub find_of : FindArguments → Plan
find_of a = Find (record { path = a.passage; language = language_of a.is_flight; assumed = None }) (image_of a.image)

-- sums: with --forms in both orders
abbrev pub sums_of : SumsArguments → Plan
sums_of a = if a.has_both_forms then SumBothForms (image_of a.image) else Sum (image_of a.image)

-- damages: with --source a source that has the words that the sums want
abbrev pub damages_of : DamagesArguments → Plan
damages_of a = if a.is_source then ShowMended (image_of a.image) else ShowDamages (image_of a.image)

-- what is to be done
abbrev pub plan_of : Arguments → Plan
plan_of (asked.Asm a) = asm_of a
plan_of (asked.Run a) = run_of a
plan_of (asked.Trace a) = trace_of a
plan_of (asked.Cover a) = cover_of a
plan_of (asked.Reach a) = reach_of a
plan_of (asked.Bound a) = bound_of a
plan_of (asked.Access a) = access_of a
plan_of (asked.Delays a) = delays_of a
plan_of (asked.WhatIf a) = whatif_of a
plan_of (asked.Differ a) = differ_of a
plan_of (asked.Debug a) = debug_of a
plan_of (asked.Check a) = check_of a
plan_of (asked.Expect files told) = Expect (record { files = files; verdicts = verdicts_of told.is_tap told.is_junit })
plan_of (asked.Explain number) = Explain number
plan_of (asked.Upgrade a) = Upgrade a.old a.new
plan_of (asked.Words a) = Show (words_of a)
plan_of (asked.Compare a) = compare_of a
plan_of (asked.Align a) = align_of a
plan_of (asked.Find a) = find_of a
plan_of (asked.Sums a) = sums_of a
plan_of (asked.Parity a) = ShowParity (image_of a)
plan_of (asked.Damages a) = damages_of a
