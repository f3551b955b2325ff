-- The inputs that lines of an extended session add can be given.
use Rattle.std.proofs.Common.{ℕ, List, [], ◌∷◌, length, Option, Some, None, Result, Ok, Err, Bool, true, false, cond}
use Rattle.std.specs.Prelude.{IfSome, IfOk, nat_lt, codes, option_and_then}
use Rattle.std.specs.Option.{option_map, option_or}
use Rattle.std.proofs.lemmas.List.Elements.{All-from_recursion}
use Rattle.std.proofs.lemmas.Map.Entries.{All-lookup}
use Rattle.agc_text.specs.Fields.{Piece, fields, texts}
use Rattle.agc_text.specs.Tables.{same_name, value_in}
use Rattle.space.specs.declared.place.Linear.{Linear}
use Rattle.symbols.specs.Values.{SymbolTable}
use Rattle.feed.specs.Given.{CanBeGivenAt}
use Rattle.feed.specs.Statements.{long_input, parsed, short_input, word_in}
use Rattle.feed.specs.declared.fault.LineFault.{LineFault}
use Rattle.feed.specs.declared.fault.LineFault.TheVariants as fault
use Rattle.feed.specs.declared.input.Input.{Input}
use Rattle.feed.proofs.Givens.{line_gives}
use Rattle.commands.specs.Commands.{Form, alone, with_one, with_both, count_in, channel_in, place_in, erasable_in, erasable_number}
use Rattle.commands.specs.Commands.{breaking, forms, known, adding, rest_after, added_by, parsed_in}
use Rattle.commands.specs.Extended.{ExtendedForm, sole, with_none, word_alone, with_field_or, steps_in, help_in, usual_links, stepped_in}
use Rattle.commands.specs.Extended.{way_in, word_asked, quiet_in}
use Rattle.commands.specs.Extended.{lines_in, links_in, why_of, why_place, word_then, links_then, since_in, index_told, telling}
use Rattle.commands.specs.Extended.{since_after, since_of, why_since, why_form, memory_of, channel_form, memory_form, counted_place}
use Rattle.commands.specs.Extended.{place_alone, broken_at, watches, bits_of, watches_bits, subject_alone, break_form, extended_forms}
use Rattle.commands.specs.Extended.{in_words, or_plain, echoed, extended_in, extended_line}
use Rattle.commands.specs.Lines.{command_length}
use Rattle.commands.specs.NamedPlaces.{place_first, after_place}
use Rattle.commands.specs.Subjects.{channel_named, erasable_first, place_subject, channel_subject}
use Rattle.commands.specs.declared.command.Breakpoint.{Breakpoint}
use Rattle.commands.specs.declared.command.Breakpoint.TheVariants as breakpoint
use Rattle.commands.specs.declared.command.Command.{Command}
use Rattle.commands.specs.declared.command.Command.TheVariants.{Step, Run, Back, Goto, Seek, Break, Clear, Registers, Memory, Channel, Last}
use Rattle.commands.specs.declared.command.Command.TheVariants.{Symbol, Changed, Tail, Add, Quit}
use Rattle.commands.specs.declared.command.ParsedLine.{ParsedLine}
use Rattle.commands.specs.declared.command.ParsedLine.TheVariants.{Nothing, TooLong, Unknown, WrongCounter, Known}
use Rattle.commands.specs.declared.subject.Subject.{Subject}
use Rattle.commands.specs.declared.survey.Surveyed.{Surveyed}
use Rattle.commands.specs.Surveys.{survey_in}
use Rattle.commands.specs.WhatIfs.{extent_in, input_tried, noted_of, noted_since, noted_tried, notes_form, restart_tried, trial_form}
use Rattle.commands.specs.WhatIfs.{tried_in, whatif_form, word_tried}
use Rattle.commands.specs.declared.whatif.Extent.{Extent}
use Rattle.commands.specs.declared.whatif.Trial.TheVariants.{Given, Restart, Noted}
use Rattle.commands.specs.declared.extended.LinkLines.{LinkLines}
use Rattle.commands.specs.declared.extended.ExtendedLine.{ExtendedLine}
use Rattle.commands.specs.declared.extended.ExtendedLine.TheVariants.{Plain, Common, Says, Help, Breaks, ClearOne, On, AllRegisters, Until}
use Rattle.commands.specs.declared.extended.ExtendedLine.TheVariants.{WhyStep, Why, Words, Where, Find, Trace, Inputs, Over, Out, Listed}
use Rattle.commands.specs.declared.extended.ExtendedLine.TheVariants.{Values, Channels, Differs, WhySince, TailSteps, Survey, Say, WhatIf}
use Rattle.commands.specs.declared.extended.ExtendedLine.TheVariants.{Calls, WhyWay, WhyControl, WhyInputs, WhyInterrupts, Never, Quiet}

-- what is asked for adds nothing, or an input that a line can give
abbrev pub AddsGivable : Command → Type 0
AddsGivable (Add cycle input) = CanBeGivenAt cycle input
AddsGivable command = Unit {0}

abbrev pub ParsedGivable : ParsedLine → Type 0
ParsedGivable (Known command) = AddsGivable command
ParsedGivable request = Unit {0}

abbrev pub AskedGivable : ExtendedLine → Type 0
AskedGivable (Plain request) = ParsedGivable request
AskedGivable (Common command) = AddsGivable command
AskedGivable request = Unit {0}

-- ## Options
mapped : {X Y : Type 0} (P : Y → Type 0) (f : X → Y) → ((x : X) → P (f x)) → (o : Option X) → IfSome (option_map f o) P
mapped P f each None = tt
mapped P f each (Some x) = each x

followed : {X Y : Type 0} (P : Y → Type 0) (f : X → Option Y) → ((x : X) → IfSome (f x) P) → (o : Option X) → IfSome (option_and_then f o) P
followed P f each None = tt
followed P f each (Some x) = each x

either : {Y : Type 0} (P : Y → Type 0) (o p : Option Y) → IfSome o P → IfSome p P → IfSome (option_or o p) P
either P None p h k = k
either P (Some y) p h k = h

chosen : {Y : Type 0} (P : Y → Type 0) (b : Bool) (o p : Option Y) → IfSome o P → IfSome p P → IfSome (cond b o p) P
chosen P true o p h k = h
chosen P false o p h k = k

-- ## The commands of any session
with_one_adds : {X : Type 0} (read : List ℕ → Option X) (command : X → Command) → ((x : X) → AddsGivable (command x)) → (fs : List (List ℕ))
    → IfSome (with_one read command fs) AddsGivable
with_one_adds read command each [] = tt
with_one_adds read command each (field ∷ []) = mapped AddsGivable command each (read field)
with_one_adds read command each (field ∷ next ∷ more) = tt

alone_adds : (command : Command) → AddsGivable command → (fs : List (List ℕ)) → IfSome (alone command fs) AddsGivable
alone_adds command h [] = h
alone_adds command h (field ∷ more) = tt

with_both_adds : {X Y : Type 0} (f : X → Y → Breakpoint) (x : Option X) (y : Option Y) → IfSome (with_both f x y) AddsGivable
with_both_adds f None y = tt
with_both_adds f (Some x) None = tt
with_both_adds f (Some x) (Some y) = tt

breaking_adds : (symbols : SymbolTable) (fs : List (List ℕ)) → IfSome (breaking symbols fs) AddsGivable
breaking_adds symbols [] = tt
breaking_adds symbols (kind ∷ []) = tt
breaking_adds symbols (kind ∷ place ∷ []) =
    chosen AddsGivable (same_name kind (codes "at")) (option_map (λ p. Break (breakpoint.Place p)) (place_in symbols place)) None
    (mapped AddsGivable (λ p. Break (breakpoint.Place p)) (λ p. tt) (place_in symbols place)) tt
breaking_adds symbols (kind ∷ watched ∷ word ∷ []) =
    chosen AddsGivable (same_name kind (codes "word")) (with_both (λ p w. breakpoint.Word p w) (erasable_in symbols watched) (word_in word))
    (cond (same_name kind (codes "chan")) (with_both (λ c w. breakpoint.Channel c w) (channel_in watched) (word_in word)) None)
    (with_both_adds (λ p w. breakpoint.Word p w) (erasable_in symbols watched) (word_in word))
    (chosen AddsGivable (same_name kind (codes "chan")) (with_both (λ c w. breakpoint.Channel c w) (channel_in watched) (word_in word)) None
    (with_both_adds (λ c w. breakpoint.Channel c w) (channel_in watched) (word_in word)) tt)
breaking_adds symbols (kind ∷ watched ∷ word ∷ next ∷ more) = tt

abbrev FormAdds : Form → Type 0
FormAdds form = (fs : List (List ℕ)) → IfSome (form fs) AddsGivable

form_adds : (symbols : SymbolTable) (name : List ℕ) → IfSome (value_in (forms symbols) name) FormAdds
unfolding forms
form_adds symbols name = All-lookup FormAdds (same_name name) (forms symbols)
    (All-from_recursion (λ (e : List ℕ × Form). FormAdds e.1) (forms symbols) (
      with_one_adds count_in (λ k. Step k) (λ k. tt),
      (
        with_one_adds count_in (λ k. Run k) (λ k. tt),
        (
          with_one_adds count_in (λ k. Back k) (λ k. tt),
          (
            with_one_adds count_in (λ t. Goto t) (λ t. tt),
            (
              alone_adds Seek tt,
              (
                breaking_adds symbols,
                (
                  alone_adds Clear tt,
                  (
                    alone_adds Registers tt,
                    (
                      with_one_adds (place_in symbols) (λ p. Memory p) (λ p. tt),
                      (
                        with_one_adds channel_in (λ c. Channel c) (λ c. tt),
                        (
                          with_one_adds (erasable_in symbols) (λ p. Last p) (λ p. tt),
                          (
                            with_one_adds (λ name. Some (value_in symbols name)) (λ value. Symbol value) (λ value. tt),
                            (
                              with_one_adds count_in (λ t. Changed t) (λ t. tt),
                              (
                                alone_adds Tail tt,
                                (
                                  alone_adds Quit tt,
                                  tt,
                                ),
                              ),
                            ),
                          ),
                        ),
                      ),
                    ),
                  ),
                ),
              ),
            ),
          ),
        ),
      ),
    ))

known_adds : (o : Option Command) → IfSome o AddsGivable → ParsedGivable (known o)
known_adds None h = tt
known_adds (Some command) h = h

adding_adds : (r : Result (ℕ × Input) LineFault) → IfOk r (λ timed. CanBeGivenAt timed.0 timed.1) → ParsedGivable (adding r)
adding_adds (Ok timed) h = h
adding_adds (Err fault.BadLine) h = tt
adding_adds (Err fault.WrongCounter) h = tt

form_found : (o : Option Form) (fs : List (List ℕ)) → IfSome o FormAdds → IfSome (option_and_then (λ form. form fs) o) AddsGivable
form_found None fs h = tt
form_found (Some form) fs h = h fs

parsed_adds : (symbols : SymbolTable) (line : List ℕ) (pieces : List Piece) → ParsedGivable (parsed_in symbols line pieces)
parsed_adds symbols line [] = tt
parsed_adds symbols line (name ∷ more) = on (same_name name.text (codes "add"))
  where
    on : (b : Bool) → ParsedGivable (cond b (added_by line (name ∷ more))
        (known (option_and_then (λ form. form (texts more)) (value_in (forms symbols) name.text))))
    on true = adding_adds (parsed (rest_after name line)) (line_gives (rest_after name line))
    on false =
        known_adds (option_and_then (λ form. form (texts more)) (value_in (forms symbols) name.text))
        (form_found (value_in (forms symbols) name.text) (texts more) (form_adds symbols name.text))

-- ## Those of an extended session
with_none_adds : (request : ExtendedLine) → AskedGivable request → (fs : List (List ℕ)) → IfSome (with_none request fs) AskedGivable
with_none_adds request h [] = h
with_none_adds request h (field ∷ more) = tt

with_field_or_adds : {X : Type 0} (none : ExtendedLine) (read : List ℕ → Option X) (request : X → ExtendedLine) → AskedGivable none
    → ((x : X) → AskedGivable (request x))
    → (fs : List (List ℕ)) → IfSome (with_field_or none read request fs) AskedGivable
with_field_or_adds none read request h each [] = h
with_field_or_adds none read request h each (field ∷ more) = mapped AskedGivable request each (option_and_then read (sole (field ∷ more)))

word_asked_adds : (s : Subject) (fs : List (List ℕ)) → IfSome (word_asked s fs) AskedGivable
word_asked_adds s fs =
    let last = cond (word_alone (codes "interrupts") (sole fs)) (Some (WhyInterrupts s)) None in
    let then = cond (word_alone (codes "inputs") (sole fs)) (Some (WhyInputs s)) last in
    chosen AskedGivable (word_alone (codes "control") (sole fs)) (Some (WhyControl s)) then tt
    (chosen AskedGivable (word_alone (codes "inputs") (sole fs)) (Some (WhyInputs s)) last tt
    (chosen AskedGivable (word_alone (codes "interrupts") (sole fs)) (Some (WhyInterrupts s)) None tt tt))

why_of_adds : (subject : Option Subject) (fs : List (List ℕ)) → IfSome (why_of subject fs) AskedGivable
why_of_adds subject fs =
    followed AskedGivable (λ s. option_or (word_asked s fs) (option_map (λ (r : ℕ × LinkLines). Why s r.0 r.1) (links_in fs)))
    (λ s. either AskedGivable (word_asked s fs) (option_map (λ (r : ℕ × LinkLines). Why s r.0 r.1) (links_in fs))
    (word_asked_adds s fs)
    (mapped AskedGivable (λ (r : ℕ × LinkLines). Why s r.0 r.1) (λ r. tt) (links_in fs))) subject

why_place_adds : (symbols : SymbolTable) (fs : List (List ℕ)) → IfSome (why_place symbols fs) AskedGivable
why_place_adds symbols [] = tt
why_place_adds symbols (field ∷ more) =
    either AskedGivable (why_of (place_subject symbols (field ∷ more)) (after_place (field ∷ more)))
    (why_of (channel_subject symbols field) more)
    (why_of_adds (place_subject symbols (field ∷ more)) (after_place (field ∷ more))) (why_of_adds (channel_subject symbols field) more)

since_of_adds : (subject : Option Subject) (fs : List (List ℕ)) → IfSome (since_of subject fs) AskedGivable
since_of_adds subject fs =
    followed AskedGivable (λ s. since_after s (links_then fs).0 (word_then (codes "index") (links_then fs).1))
    (λ s. mapped AskedGivable (λ t. WhySince s (links_then fs).0
    (telling (index_told (word_then (codes "index") (links_then fs).1).0)
    (word_then (codes "places") (word_then (codes "index") (links_then fs).1).1).0) t) (λ t. tt)
    (since_in (word_then (codes "places") (word_then (codes "index") (links_then fs).1).1).1)) subject

why_since_adds : (symbols : SymbolTable) (fs : List (List ℕ)) → IfSome (why_since symbols fs) AskedGivable
why_since_adds symbols [] = tt
why_since_adds symbols (field ∷ more) =
    either AskedGivable (since_of (place_subject symbols (field ∷ more)) (after_place (field ∷ more)))
    (since_of (channel_subject symbols field) more)
    (since_of_adds (place_subject symbols (field ∷ more)) (after_place (field ∷ more))) (since_of_adds (channel_subject symbols field) more)

why_adds : (symbols : SymbolTable) (fs : List (List ℕ)) → IfSome (why_form symbols fs) AskedGivable
why_adds symbols fs =
    either AskedGivable (way_in fs) (option_or (option_map (λ lines. WhyStep lines) (lines_in fs))
    (option_or (why_place symbols fs) (why_since symbols fs)))
    (chosen AskedGivable (word_alone (codes "step") (sole fs)) (Some WhyWay) None tt tt)
    (either AskedGivable (option_map (λ lines. WhyStep lines) (lines_in fs)) (option_or (why_place symbols fs) (why_since symbols fs))
    (mapped AskedGivable (λ lines. WhyStep lines) (λ lines. tt) (lines_in fs))
    (either AskedGivable (why_place symbols fs) (why_since symbols fs) (why_place_adds symbols fs) (why_since_adds symbols fs)))

memory_of_adds : (fs : List (List ℕ)) (place : Linear) → IfSome (memory_of place fs) AskedGivable
memory_of_adds [] place = tt
memory_of_adds (field ∷ more) place = mapped AskedGivable (λ k. Words place k) (λ k. tt) _

memory_adds : (symbols : SymbolTable) (fs : List (List ℕ)) → IfSome (memory_form symbols fs) AskedGivable
memory_adds symbols fs =
    either AskedGivable (option_and_then (λ place. memory_of place (after_place fs)) (place_first symbols fs)) (channel_form symbols fs)
    (followed AskedGivable (λ place. memory_of place (after_place fs)) (memory_of_adds (after_place fs)) (place_first symbols fs))
    (mapped AskedGivable (λ c. Common (Channel c)) (λ c. tt) (option_and_then (channel_named symbols) (sole fs)))

watches_adds : (symbols : SymbolTable) (fs : List (List ℕ)) → IfSome (watches symbols fs) AskedGivable
watches_adds symbols fs =
    followed AskedGivable (λ p. option_map (λ w. broken_at (breakpoint.Word p w)) (option_and_then word_in (sole (after_place fs))))
    (λ p. mapped AskedGivable (λ w. broken_at (breakpoint.Word p w)) (λ w. tt) (option_and_then word_in (sole (after_place fs))))
    (erasable_first symbols fs)

bits_adds : (channel word mask : Option ℕ) → IfSome (bits_of channel word mask) AskedGivable
bits_adds None word mask = tt
bits_adds (Some c) None mask = tt
bits_adds (Some c) (Some w) None = tt
bits_adds (Some c) (Some w) (Some m) = tt

watches_bits_adds : (fs : List (List ℕ)) → IfSome (watches_bits fs) AskedGivable
watches_bits_adds [] = tt
watches_bits_adds (channel ∷ []) = tt
watches_bits_adds (channel ∷ word ∷ []) = tt
watches_bits_adds (channel ∷ word ∷ mask ∷ []) = bits_adds (channel_in channel) (word_in word) (word_in mask)
watches_bits_adds (channel ∷ word ∷ mask ∷ next ∷ more) = tt

break_adds : (symbols : SymbolTable) (fs : List (List ℕ)) → IfSome (break_form symbols fs) AskedGivable
break_adds symbols [] = tt
break_adds symbols (kind ∷ fs) =
    chosen AskedGivable (same_name kind (codes "at")) _ _
    (mapped AskedGivable (λ p. broken_at (breakpoint.Place p)) (λ p. tt) (place_alone symbols fs))
    (chosen AskedGivable (same_name kind (codes "word")) _ _ (watches_adds symbols fs)
    (chosen AskedGivable (same_name kind (codes "chan")) _ _ (watches_bits_adds fs)
    (chosen AskedGivable (same_name kind (codes "exec")) _ _
    (mapped AskedGivable (λ p. broken_at (breakpoint.Executed p)) (λ p. tt) (place_alone symbols fs))
    (chosen AskedGivable (same_name kind (codes "change")) _ _
    (mapped AskedGivable (λ s. broken_at (breakpoint.Changed s)) (λ s. tt) (subject_alone symbols fs)) tt))))

tried_adds : (input : Result Input LineFault) (extent : Option Extent) → IfSome (tried_in input extent) AskedGivable
tried_adds input None = tt
tried_adds (Ok input) (Some extent) = tt
tried_adds (Err fault.BadLine) (Some extent) = tt
tried_adds (Err fault.WrongCounter) (Some extent) = tt

word_adds : (name channel : List ℕ) (fs : List (List ℕ)) → IfSome (word_tried name channel fs) AskedGivable
word_adds name channel [] = tt
word_adds name channel (word ∷ more) = tried_adds (long_input name channel word) (extent_in more)

restart_adds : (extent : Option Extent) → IfSome (restart_tried extent) AskedGivable
restart_adds None = tt
restart_adds (Some extent) = tt

input_adds : (name : List ℕ) (fs : List (List ℕ)) → IfSome (input_tried name fs) AskedGivable
input_adds name [] = tt
input_adds name (first ∷ more) =
    chosen AskedGivable (same_name name (codes "CHAN")) _ _ (word_adds name first more)
    (tried_adds (short_input name first) (extent_in more))

trial_adds : (fs : List (List ℕ)) → IfSome (trial_form fs) AskedGivable
trial_adds [] = tt
trial_adds (name ∷ more) =
    chosen AskedGivable (same_name name (codes "RESTART")) _ _ (restart_adds (extent_in more)) (input_adds name more)

noted_of_adds : (since : Option ℕ) (request : ExtendedLine) → AskedGivable request → IfSome (noted_of since request) AskedGivable
noted_of_adds since (WhatIf (Given input) extent) given = tt
noted_of_adds since (WhatIf Restart extent) given = tt
noted_of_adds since (WhatIf (Noted t input) extent) given = tt
noted_of_adds since request given = given

noted_adds : (since : Option ℕ) (request : Option ExtendedLine) → IfSome request AskedGivable
    → IfSome (option_and_then (noted_of since) request) AskedGivable
noted_adds since None given = tt
noted_adds since (Some request) given = noted_of_adds since request given

since_adds : (t : Option ℕ) (fs : List (List ℕ)) → IfSome (option_and_then (λ t. noted_tried (Some t) fs) t) AskedGivable
since_adds None fs = tt
since_adds (Some t) fs = noted_adds (Some t) (trial_form fs) (trial_adds fs)

noted_since_adds : (fs : List (List ℕ)) → IfSome (noted_since fs) AskedGivable
noted_since_adds [] = tt
noted_since_adds (step ∷ more) = since_adds (count_in step) more

notes_adds : (fs : List (List ℕ)) → IfSome (notes_form fs) AskedGivable
notes_adds [] = tt
notes_adds (word ∷ more) =
    chosen AskedGivable (same_name word (codes "since")) _ _ (noted_since_adds more)
    (noted_adds None (trial_form (word ∷ more)) (trial_adds (word ∷ more)))

whatif_adds : (fs : List (List ℕ)) → IfSome (whatif_form fs) AskedGivable
whatif_adds [] = tt
whatif_adds (word ∷ more) =
    chosen AskedGivable (same_name word (codes "notes")) _ _ (notes_adds more) (trial_adds (word ∷ more))

abbrev AskedAdds : ExtendedForm → Type 0
AskedAdds form = (fs : List (List ℕ)) → IfSome (form fs) AskedGivable

asked_adds : (symbols : SymbolTable) (name : List ℕ) → IfSome (value_in (extended_forms symbols) name) AskedAdds
unfolding extended_forms
asked_adds symbols name = All-lookup AskedAdds (same_name name) (extended_forms symbols)
    (All-from_recursion (λ (e : List ℕ × ExtendedForm). AskedAdds e.1) (extended_forms symbols) (
      (λ fs. mapped AskedGivable (λ k. On k) (λ k. tt) (steps_in fs)),
      (
        (λ fs. mapped AskedGivable (λ cycles. Until cycles) (λ k. tt) (option_and_then count_in (sole fs))),
        (
          (λ fs. mapped AskedGivable (λ k. Over k) (λ k. tt) (steps_in fs)),
          (
            (λ fs. mapped AskedGivable (λ k. Out k) (λ k. tt) (steps_in fs)),
            (
              why_adds symbols,
              (
                (λ fs. chosen AskedGivable (word_alone (codes "all") (sole fs)) (Some AllRegisters) None tt tt),
                (
                  with_none_adds Breaks tt,
                  (
                    (λ fs. mapped AskedGivable (λ i. ClearOne i) (λ i. tt) (option_and_then count_in (sole fs))),
                    (
                      with_field_or_adds Help help_in (λ text. Says text) tt (λ text. tt),
                      (
                        memory_adds symbols,
                        (
                          (λ fs. mapped AskedGivable (λ p. Common (Last p)) (λ p. tt)
                              (option_and_then erasable_number (place_alone symbols fs))),
                          (
                            break_adds symbols,
                            (
                              with_none_adds Inputs tt,
                              (
                                with_none_adds Where tt,
                                (
                                  (λ fs. mapped AskedGivable (λ text. Find text) (λ text. tt)
                                      (option_and_then (λ field. Some field) (sole fs))),
                                  (
                                    (λ fs. mapped AskedGivable (λ k. Trace k) (λ k. tt) (option_and_then count_in (sole fs))),
                                    (
                                      (λ fs. mapped AskedGivable (λ k. TailSteps k) (λ k. tt) (stepped_in fs)),
                                      (
                                        (λ fs. mapped AskedGivable (λ (r : Linear × ℕ). Listed r.0 r.1) (λ r. tt)
                                            (counted_place symbols usual_links fs)),
                                        (
                                          (λ fs. mapped AskedGivable (λ (r : Linear × ℕ). Values r.0 r.1) (λ r. tt)
                                              (counted_place symbols 1 fs)),
                                          (
                                            with_none_adds Channels tt,
                                            (
                                              (λ fs. mapped AskedGivable (λ t. Differs t) (λ t. tt) (option_and_then count_in (sole fs))),
                                              (
                                                (λ fs. mapped AskedGivable (λ (asked : Surveyed). Survey asked) (λ asked. tt)
                                                    (survey_in symbols fs)),
                                                (
                                                  (λ fs. mapped AskedGivable (λ k. Say k) (λ k. tt) (option_and_then count_in (sole fs))),
                                                  (
                                                    whatif_adds,
                                                    (
                                                      with_none_adds Calls tt,
                                                      (
                                                        (λ fs. mapped AskedGivable (λ place. Never place) (λ place. tt)
                                                            (place_alone symbols fs)),
                                                        (
                                                          (λ fs. mapped AskedGivable (λ on. Quiet on) (λ on. tt) (quiet_in fs)),
                                                          tt,
                                                        ),
                                                      ),
                                                    ),
                                                  ),
                                                ),
                                              ),
                                            ),
                                          ),
                                        ),
                                      ),
                                    ),
                                  ),
                                ),
                              ),
                            ),
                          ),
                        ),
                      ),
                    ),
                  ),
                ),
              ),
            ),
          ),
        ),
      ),
    ))

asked_found : (o : Option ExtendedForm) (fs : List (List ℕ)) → IfSome o AskedAdds
    → IfSome (option_and_then (λ form. form fs) o) AskedGivable
asked_found None fs h = tt
asked_found (Some form) fs h = h fs

in_words_adds : (symbols : SymbolTable) (name : List ℕ) (fs : List (List ℕ)) (request : ParsedLine) → ParsedGivable request
    → AskedGivable (in_words symbols name fs request)
in_words_adds symbols name fs Nothing h = tt
in_words_adds symbols name fs TooLong h = tt
in_words_adds symbols name fs Unknown h = tt
in_words_adds symbols name fs WrongCounter h = tt
in_words_adds symbols name fs (Known command) h = h

or_plain_adds : (o : Option ExtendedLine) (request : ExtendedLine) → IfSome o AskedGivable → AskedGivable request
    → AskedGivable (or_plain o request)
or_plain_adds None request h k = k
or_plain_adds (Some extended) request h k = h

extended_adds : (symbols : SymbolTable) (line : List ℕ) (pieces : List Piece) → AskedGivable (extended_in symbols line pieces)
extended_adds symbols line [] = tt
extended_adds symbols line (name ∷ more) = on (same_name name.text (codes "echo"))
  where
    form : Option ExtendedLine
    form = option_and_then (λ form. form (texts more)) (value_in (extended_forms symbols) name.text)

    plain : ExtendedLine
    plain = in_words symbols name.text (texts more) (parsed_in symbols line (name ∷ more))

    on : (b : Bool) → AskedGivable (cond b (echoed line (name ∷ more)) (or_plain form plain))
    on true = tt
    on false =
        or_plain_adds form plain (asked_found (value_in (extended_forms symbols) name.text) (texts more) (asked_adds symbols name.text))
        (in_words_adds symbols name.text (texts more) (parsed_in symbols line (name ∷ more)) (parsed_adds symbols line (name ∷ more)))

-- what a line asks for
pub line_adds : (symbols : SymbolTable) (line : List ℕ) → AskedGivable (extended_line symbols line)
unfolding extended_line
line_adds symbols line = on (nat_lt command_length (length line))
  where
    on : (b : Bool) → AskedGivable (cond b (Plain TooLong) (extended_in symbols line (fields line)))
    on true = tt
    on false = extended_adds symbols line (fields line)
