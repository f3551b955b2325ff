-- What each line of an extended session brings.
use Rattle.std.specs.Prelude.{ℕ, ◌+◌, ◌-◌, nat_lt, nat_le, ◌&&◌, min, Bool, true, false, Option, None, Some, is_some, List, [], ◌∷◌, ◌++◌, length, codes}
use Rattle.std.specs.Prelude.{decimal, if◌then◌else◌}
use Rattle.std.specs.List.{remove}
use Rattle.words.specs.Numerals.{octal_text}
use Rattle.space.specs.declared.place.Linear.TheVariants.{Erasable}
use Rattle.yayul.specs.Listing.{place_text}
use Rattle.commands.specs.Usages.{usages, help_lines}
use Rattle.commands.specs.declared.command.Breakpoint.{Breakpoint}
use Rattle.commands.specs.declared.command.Breakpoint.TheVariants.{Place, Word, Channel, Bits, Cycles, Returned, Outside, Executed, Changed}
use Rattle.commands.specs.declared.subject.Subject.{Subject}
use Rattle.commands.specs.declared.subject.Subject.TheVariants as subject
use Rattle.commands.specs.declared.extended.ExtendedLine.{ExtendedLine}
use Rattle.commands.specs.declared.extended.ExtendedLine.TheVariants.{Plain, Common, Says, Help, Breaks, ClearOne, On, AllRegisters, Until}
use Rattle.commands.specs.declared.extended.ExtendedLine.TheVariants.{WhyStep, Why, Words, Where, Find, Trace, Inputs, Over, Out, Listed}
use Rattle.commands.specs.declared.extended.ExtendedLine.TheVariants.{Values, Channels, Differs, WhySince, TailSteps, Survey, Say, WhatIf}
use Rattle.commands.specs.declared.extended.ExtendedLine.TheVariants.{Calls, WhyWay, WhyControl, WhyInputs, WhyInterrupts, Never, Quiet}
use Rattle.cpu.specs.Run.{run}
use Rattle.debugger.specs.History.{History, in_manner}
use Rattle.debugger.specs.declared.manner.Manner.TheVariants as manner
use Rattle.debugger.specs.AllRegisters.{all_registers}
use Rattle.debugger.specs.Channels.{channels_text}
use Rattle.debugger.specs.CallsTold.{calls_text}
use Rattle.debugger.specs.Differs.{differs_text}
use Rattle.debugger.specs.Whys.{subject_spots, why_text, last_text}
use Rattle.debugger.specs.WhysSince.{since_text}
use Rattle.debugger.specs.Ways.{control_text, way_text}
use Rattle.debugger.specs.Nevers.{never_text}
use Rattle.debugger.specs.Standing.{where_text, found_text, words_text, rows_text}
use Rattle.debugger.specs.declared.rows.RowKind.TheVariants.{Instruction, Number}
use Rattle.debugger.specs.Retracing.{traced_text}
use Rattle.say.specs.declared.form.LineForm.TheVariants.{Steps, Sentences}
use Rattle.debugger.specs.SteppedTail.{stepped_tail}
use Rattle.debugger.specs.Surveys.{survey_text}
use Rattle.debugger.specs.OriginsTold.{tells_inputs, tells_interrupts}
use Rattle.debugger.specs.WhatIfs.{program_of, tries}
use Rattle.debugger.specs.Terms.{Terms}
use Rattle.debugger.specs.Inputs.{inputs_text}
use Rattle.debugger.specs.Routines.{goes_over, goes_out}
use Rattle.replay.specs.LastHit.{first_hit}
use Rattle.debugger.specs.Growth.{growth_told, hit_at}
use Rattle.debugger.specs.declared.ending.Ending.{Ending}
use Rattle.debugger.specs.declared.ending.Ending.TheVariants.{Reached, Hit, NoMemory, Limit}
use Rattle.commands.specs.Extended.{most_count}
use Rattle.debugger.specs.Replies.{Desk, Reply, says, here, line, refuses, answer, reply, sought, moves, stands, ending_line, after_text}
use Rattle.debugger.specs.Replies.{after_growth, after_steps}

-- an erasable place as a listing has it, or a channel
abbrev pub subject_text : Subject → List ℕ
subject_text (subject.Place p) = place_text (Erasable p)
subject_text (subject.Channel c) = codes "CH" ++ octal_text 3 c

-- a breakpoint as the command that sets it, with its place as a listing has it
abbrev pub breakpoint_text : Breakpoint → List ℕ
breakpoint_text (Place place) = codes "at " ++ place_text place
breakpoint_text (Word p w) = codes "word " ++ place_text (Erasable p) ++ codes " " ++ octal_text 5 w
breakpoint_text (Channel c w) = codes "chan " ++ octal_text 3 c ++ codes " " ++ octal_text 5 w
breakpoint_text (Bits c w mask) = codes "chan " ++ octal_text 3 c ++ codes " " ++ octal_text 5 w ++ codes " " ++ octal_text 5 mask
breakpoint_text (Cycles cycles) = codes "cycles " ++ decimal cycles
breakpoint_text (Returned place inside) = codes "returned " ++ place_text place
breakpoint_text Outside = codes "outside"
breakpoint_text (Executed place) = codes "exec " ++ place_text place
breakpoint_text (Changed subject) = codes "change " ++ subject_text subject

-- a line for each, numbered on from so many, and how many there are
abbrev pub breaks_from : ℕ → List Breakpoint → List ℕ
breaks_from i [] = line (codes "COUNT " ++ decimal i)
breaks_from i (b ∷ more) = line (codes "BREAK " ++ decimal (i + 1) ++ codes " " ++ breakpoint_text b) ++ breaks_from (i + 1) more

-- one breakpoint is taken away, by its number; those after it are numbered anew
abbrev pub clears_one : Desk → ℕ → Reply
clears_one d i =
    if nat_lt 0 i && nat_le i (length d.breakpoints) then says (line (codes "CLEAR " ++ decimal i))
    (record d { breakpoints = remove d.breakpoints (i - 1) })
    else refuses d (codes "NONE")

-- the outputs of new steps are counted from now on, or told again
abbrev pub quiet_text : Bool → List ℕ
quiet_text true = codes "QUIET on"
quiet_text false = codes "QUIET off"

abbrev pub hushes : Desk → Bool → Reply
hushes d on = says (line (quiet_text on)) (record d { quiet = on })

-- the first step after the position, of so many that stand, at which a breakpoint holds
abbrev pub next_stop : History → Desk → ℕ → Option ℕ
next_stop h d k = first_hit (λ t. is_some (hit_at h d.breakpoints t)) (d.position + 1) (min k (d.steps - d.position))

-- the position moves on to it; where there is none, new steps are made, as many as are left
abbrev pub grows_to : History → Desk → ℕ → Reply
grows_to h d target = let g = growth_told d.quiet h d.breakpoints (target - d.steps) d.steps d.answers in after_steps h d g (min target g.steps)

abbrev pub stops_on : History → Desk → ℕ → Option ℕ → Reply
stops_on h d k None = grows_to h d (d.position + k)
stops_on h d k (Some t) = sought h d (Some t)

-- the first of n steps with so many cycles; the start has none
abbrev pub first_at : History → ℕ → ℕ → Option ℕ
first_at h n cycles = first_hit (λ t. nat_le cycles (h.after t).cycles) 0 (n + 1)

-- that so many cycles have passed is told as that the steps were made
abbrev pub unhit : Ending → Ending
unhit Reached = Reached
unhit (Hit i) = Reached
unhit NoMemory = NoMemory
unhit Limit = Limit

-- new steps are made until so many cycles have passed
abbrev pub grows_until : History → Desk → ℕ → Reply
grows_until h d cycles =
    let g = growth_told d.quiet h (Cycles cycles ∷ []) most_count d.steps d.answers in
    after_text g.text (stands h (ending_line (unhit g.ending)) (after_growth d g g.steps))

-- the position moves to the first step with so many cycles, which is new where none of those that were made has
abbrev pub goes_until : History → Desk → ℕ → Option ℕ → Reply
goes_until h d cycles None = grows_until h d cycles
goes_until h d cycles (Some t) = moves h d t

-- a run as an extended session tells it
abbrev pub further : History → History
further h = in_manner manner.Extended h

-- what a line brings, in terms and over a run
unfoldable pub extended_reply : Terms → History → Desk → ExtendedLine → Reply
extended_reply terms h d (Plain request) = answer h d request
extended_reply terms h d (Common command) = reply (further h) d command
extended_reply terms h d (Says text) = says text d
extended_reply terms h d Help = says (help_lines usages) d
extended_reply terms h d Breaks = says (breaks_from 0 d.breakpoints) d
extended_reply terms h d (ClearOne i) = clears_one d i
extended_reply terms h d (On k) = stops_on (further h) d k (next_stop h d k)
extended_reply terms h d (Until cycles) = goes_until (further h) d cycles (first_at h d.steps cycles)
extended_reply terms h d AllRegisters = says (all_registers (run d.scenario d.position)) d
extended_reply terms h d (WhyStep lines) = says (last_text terms.symbols d.scenario lines d.position) d
extended_reply terms h d (Why subject k lines) = says (why_text terms.symbols d.scenario lines k d.position (subject_spots subject)) d
extended_reply terms h d (WhySince subject k lines since) = says
    (since_text terms.symbols d.scenario lines since k d.position (subject_spots subject)) d
extended_reply terms h d (Words place k) = says (words_text h (here h d) place k) d
extended_reply terms h d Where = says (where_text terms.symbols terms.source d.scenario d.position) d
extended_reply terms h d (Find text) = says (found_text terms.symbols text) d
extended_reply terms h d (Trace k) = says (traced_text Steps terms.symbols d.scenario d.position k) d
extended_reply terms h d (TailSteps k) = says (stepped_tail d.scenario d.steps k) d
extended_reply terms h d Inputs = says (inputs_text terms.first d.scenario) d
extended_reply terms h d (Over k) = goes_over (further h) d k
extended_reply terms h d (Out k) = goes_out (further h) d k
extended_reply terms h d (Listed place k) = says (rows_text Instruction terms.symbols terms.source d.scenario.rope h (here h d) place k) d
extended_reply terms h d (Values place k) = says (rows_text Number terms.symbols terms.source d.scenario.rope h (here h d) place k) d
extended_reply terms h d Channels = says (channels_text (run d.scenario d.position).cells) d
extended_reply terms h d (Differs t) = says (differs_text d.scenario d.steps d.position t) d
extended_reply terms h d (Survey asked) = says (survey_text d.scenario d.steps asked) d
extended_reply terms h d (Say k) = says (traced_text Sentences terms.symbols d.scenario d.position k) d
extended_reply terms h d (WhatIf trial extent) = tries (program_of terms.symbols terms.source d.scenario) trial extent d
extended_reply terms h d WhyWay = says (way_text terms.symbols d.scenario d.position) d
extended_reply terms h d (WhyControl subject) = says (control_text terms.symbols d.scenario d.position (subject_spots subject)) d
extended_reply terms h d (WhyInputs subject) = tells_inputs terms.symbols subject d
extended_reply terms h d (WhyInterrupts subject) = tells_interrupts subject d
extended_reply terms h d (Never place) = says (never_text terms.symbols d.scenario place d.position) d
extended_reply terms h d Calls = says (calls_text terms.symbols d.scenario d.position) d
extended_reply terms h d (Quiet on) = hushes d on
