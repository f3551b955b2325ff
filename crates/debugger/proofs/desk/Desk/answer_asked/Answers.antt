use Rattle.std.proofs.Common.{ℕ, ◌+◌, ◌*◌, ◌∙◌, ap, arith, refl}
use Rattle.symbols.specs.Values.{SymbolTable}
use Rattle.yayul.specs.Program.{Source}
use Rattle.debugger.specs.Terms.{Terms}
use Rattle.debugger.specs.Inputs.{inputs_text}
use Rattle.debugger.specs.ExtendedReplies.{extended_reply}
use Rattle.commands.specs.declared.extended.ExtendedLine.TheVariants.{Plain, Common, WhyStep, Why, Words, Where, Find, Trace, Inputs}
use Rattle.commands.specs.declared.extended.ExtendedLine.TheVariants.{Listed, Values, Channels, Differs, WhySince, TailSteps, Survey, Say}
use Rattle.commands.specs.declared.extended.ExtendedLine.TheVariants.{WhatIf, Calls, WhyWay, WhyControl, WhyInputs, WhyInterrupts, Never}
use Rattle.debugger.specs.Conversation.{to_asked, link_effort}
use Rattle.debugger.specs.History.{history}
use Rattle.debugger.specs.CallsTold.{calls_text}
use Rattle.debugger.specs.Channels.{channels_text}
use Rattle.debugger.specs.Differs.{differs_text}
use Rattle.cpu.specs.Run.{run}
use Rattle.debugger.specs.Standing.{words_text, where_text, found_text, rows_text}
use Rattle.debugger.specs.declared.rows.RowKind.TheVariants.{Instruction, Number}
use Rattle.debugger.specs.Retracing.{traced_text}
use Rattle.say.specs.declared.form.LineForm.TheVariants.{Steps, Sentences}
use Rattle.debugger.specs.SteppedTail.{stepped_tail}
use Rattle.debugger.specs.Surveys.{survey_text}
use Rattle.debugger.specs.OriginsTold.{tells_inputs, tells_interrupts}
use Rattle.debugger.specs.WhatIfs.{program_of, tries}
use Rattle.debugger.specs.Whys.{why_text, last_text, subject_spots}
use Rattle.debugger.specs.WhysSince.{since_text}
use Rattle.debugger.specs.Ways.{control_text, way_text}
use Rattle.debugger.specs.Nevers.{never_text}
use Rattle.commands.specs.declared.command.ParsedLine.TheVariants.{Known}
use Rattle.debugger.specs.declared.manner.Manner.TheVariants as manner
use Rattle.debugger.specs.Executions.{to_request}
use Rattle.debugger.specs.Replies.{answer}
use Rattle.debugger.proofs.SinceLines.{cost_done}
use Rattle.debugger.proofs.WholeReplies.{asked-text, replies-text, replies-same}
use Rattle.debugger.proofs.desk.Desk.answer_asked.Goals as goal

abbrev terms : SymbolTable → Source → ℕ → Terms
terms symbols source first = record { symbols = symbols; source = source; first = first }

pub returns-in-Plain-clause-executes : goal.returns-in-Plain-clause-executes
unfolding extended_reply history
returns-in-Plain-clause-executes g c = λ told.
    rw c.in-Plain.is (replies-same g.K.Keeper.may_refuse
    (to_asked (terms c.args.self.now.symbols.now c.args.self.now.rows.now c.args.self.now.first_added) (Plain c.in-Plain.request))
    (to_request manner.Plain c.in-Plain.request) _ _ _ _ _ (λ answers additions. refl) (c.answer.ensures.executes told))

pub returns-in-Common-clause-executes : goal.returns-in-Common-clause-executes
unfolding extended_reply answer
returns-in-Common-clause-executes g c = λ told.
    rw c.in-Common.is (replies-same g.K.Keeper.may_refuse
    (to_asked (terms c.args.self.now.symbols.now c.args.self.now.rows.now c.args.self.now.first_added) (Common c.in-Common.command))
    (to_request manner.Extended (Known c.in-Common.command)) _ _ _ _ _ (λ answers additions. refl) (c.obey.ensures.executes told))

pub returns-in-Says-clause-executes : goal.returns-in-Says-clause-executes
unfolding extended_reply
returns-in-Says-clause-executes g c = λ told.
    asked-text g.K.Keeper.may_refuse (terms c.args.self.now.symbols.now c.args.self.now.rows.now c.args.self.now.first_added) _ _ _ _ _ _ _ _ _ c.in-Says.is
    (λ terms answers additions. refl) c.as_slice.ensures (c.write_all.ensures.written told)

pub returns-in-Help-clause-executes : goal.returns-in-Help-clause-executes
unfolding extended_reply
returns-in-Help-clause-executes g c = λ told.
    asked-text g.K.Keeper.may_refuse (terms c.args.self.now.symbols.now c.args.self.now.rows.now c.args.self.now.first_added) _ _ _ _ _ _ _ _ _ c.in-Help.is
    (λ terms answers additions. rw c.help_text.ensures refl) c.as_slice-in-Help.ensures.value (c.write_all-in-Help.ensures.written told)

pub returns-in-Breaks-clause-executes : goal.returns-in-Breaks-clause-executes
unfolding extended_reply
returns-in-Breaks-clause-executes g c = λ told.
    asked-text g.K.Keeper.may_refuse (terms c.args.self.now.symbols.now c.args.self.now.rows.now c.args.self.now.first_added) _ _ _ _ _ _ _ _ _ c.in-Breaks.is
    (λ terms answers additions. rw c.breaks_text.ensures refl) c.as_slice-in-Breaks.ensures.value
    (c.write_all-in-Breaks.ensures.written told)

pub returns-in-ClearOne-clause-executes : goal.returns-in-ClearOne-clause-executes
returns-in-ClearOne-clause-executes g c = λ told.
    asked-text g.K.Keeper.may_refuse (terms c.args.self.now.symbols.now c.args.self.now.rows.now c.args.self.now.first_added) _ _ _ _ _ _ _ _ _ c.in-ClearOne.is
    c.clear_one.ensures.brings c.as_slice-in-ClearOne.ensures.value (c.write_all-in-ClearOne.ensures.written told)

pub returns-in-On-clause-executes : goal.returns-in-On-clause-executes
returns-in-On-clause-executes g c = λ told. rw c.in-On.is
    (c.go_on.ensures.executes told)

pub returns-in-AllRegisters-clause-executes : goal.returns-in-AllRegisters-clause-executes
returns-in-AllRegisters-clause-executes g c = λ told.
    asked-text g.K.Keeper.may_refuse (terms c.args.self.now.symbols.now c.args.self.now.rows.now c.args.self.now.first_added) _ _ _ _ _ _ _ _ _ c.in-AllRegisters.is
    c.all_registers.ensures.brings c.as_slice-in-AllRegisters.ensures.value (c.write_all-in-AllRegisters.ensures.written told)

pub returns-in-Until-clause-executes : goal.returns-in-Until-clause-executes
returns-in-Until-clause-executes g c = λ told. rw c.in-Until.is
    (c.until.ensures.executes told)

pub returns-in-WhyStep-clause-executes : goal.returns-in-WhyStep-clause-executes
unfolding extended_reply
returns-in-WhyStep-clause-executes g c = λ told.
    let looks = c.why_step.ensures.looked in
    let looked = looks.session in
    rw c.in-WhyStep.is (replies-text g.K.Keeper.may_refuse
    (to_asked (terms c.args.self.now.symbols.now c.args.self.now.rows.now c.args.self.now.first_added) (WhyStep c.in-WhyStep.lines)) _ _ _ _
    (last_text c.args.self.now.symbols.now c.args.self.now.session.now.scenario c.in-WhyStep.lines c.args.self.now.position) _ _
    (λ answers additions. rw (looked.scenario, looked.steps, looks.position, looks.breakpoints, looks.quiet) refl) refl (c.why_step.ensures.writes told))

pub returns-in-Why-clause-executes : goal.returns-in-Why-clause-executes
unfolding extended_reply
returns-in-Why-clause-executes g c = λ told.
    let looks = c.why.ensures.looked in
    let looked = looks.session in
    rw c.in-Why.is (replies-text g.K.Keeper.may_refuse
    (to_asked (terms c.args.self.now.symbols.now c.args.self.now.rows.now c.args.self.now.first_added) (Why c.in-Why.subject c.in-Why.links c.in-Why.lines)) _ _ _
    _ (why_text c.args.self.now.symbols.now c.args.self.now.session.now.scenario c.in-Why.lines c.in-Why.links c.args.self.now.position
    (subject_spots c.in-Why.subject)) _ _ (λ answers additions. rw (looked.scenario, looked.steps, looks.position, looks.breakpoints, looks.quiet) refl) refl
    (c.why.ensures.writes told))

pub returns-in-WhyWay-clause-executes : goal.returns-in-WhyWay-clause-executes
unfolding extended_reply
returns-in-WhyWay-clause-executes g c = λ told.
    let looks = c.why_way.ensures.looked in
    let looked = looks.session in
    rw c.in-WhyWay.is (replies-text g.K.Keeper.may_refuse
    (to_asked (terms c.args.self.now.symbols.now c.args.self.now.rows.now c.args.self.now.first_added) WhyWay) _ _ _ _
    (way_text c.args.self.now.symbols.now c.args.self.now.session.now.scenario c.args.self.now.position) _ _
    (λ answers additions. rw (looked.scenario, looked.steps, looks.position, looks.breakpoints, looks.quiet) refl) refl (c.why_way.ensures.writes told))

pub returns-in-WhyControl-clause-executes : goal.returns-in-WhyControl-clause-executes
unfolding extended_reply
returns-in-WhyControl-clause-executes g c = λ told.
    let looks = c.why_control.ensures.looked in
    let looked = looks.session in
    rw c.in-WhyControl.is (replies-text g.K.Keeper.may_refuse
    (to_asked (terms c.args.self.now.symbols.now c.args.self.now.rows.now c.args.self.now.first_added) (WhyControl c.in-WhyControl.subject)) _ _ _ _
    (control_text c.args.self.now.symbols.now c.args.self.now.session.now.scenario c.args.self.now.position (subject_spots c.in-WhyControl.subject)) _ _
    (λ answers additions. rw (looked.scenario, looked.steps, looks.position, looks.breakpoints, looks.quiet) refl) refl (c.why_control.ensures.writes told))

pub returns-in-Never-clause-executes : goal.returns-in-Never-clause-executes
unfolding extended_reply
returns-in-Never-clause-executes g c = λ told.
    let looks = c.never.ensures.looked in
    let looked = looks.session in
    rw c.in-Never.is (replies-text g.K.Keeper.may_refuse
    (to_asked (terms c.args.self.now.symbols.now c.args.self.now.rows.now c.args.self.now.first_added) (Never c.in-Never.place)) _ _ _ _
    (never_text c.args.self.now.symbols.now c.args.self.now.session.now.scenario c.in-Never.place c.args.self.now.position) _ _
    (λ answers additions. rw (looked.scenario, looked.steps, looks.position, looks.breakpoints, looks.quiet) refl) refl (c.never.ensures.writes told))

pub returns-in-WhySince-clause-executes : goal.returns-in-WhySince-clause-executes
unfolding extended_reply
returns-in-WhySince-clause-executes g c = λ told.
    let looks = c.why_since.ensures.looked in
    let looked = looks.session in
    rw c.in-WhySince.is (replies-text g.K.Keeper.may_refuse
    (to_asked (terms c.args.self.now.symbols.now c.args.self.now.rows.now c.args.self.now.first_added)
    (WhySince c.in-WhySince.subject c.in-WhySince.links c.in-WhySince.lines c.in-WhySince.since)) _ _ _ _
    (since_text c.args.self.now.symbols.now c.args.self.now.session.now.scenario c.in-WhySince.lines c.in-WhySince.since c.in-WhySince.links
    c.args.self.now.position (subject_spots c.in-WhySince.subject)) _ _ (λ answers additions. rw (looked.scenario, looked.steps, looks.position, looks.breakpoints, looks.quiet) refl)
    refl (c.why_since.ensures.writes told))

pub returns-in-WhySince-clause-served : goal.returns-in-WhySince-clause-served
returns-in-WhySince-clause-served g c =
    let looks = c.why_since.ensures.looked in
    let looked = looks.session in
    rw c.in-WhySince.is (record {
      session = record {
        forward = omega (arith, looked.steps);
        cost = cost_done (link_effort c.in-WhySince.lines * c.in-WhySince.links + 2) c.args.self.now.session.now.meter _ c.args.self.now.session.now.n _
            c.in-WhySince.since looked.cost looked.steps;
      };
      same = looks.same;
    })

pub returns-in-Words-clause-executes : goal.returns-in-Words-clause-executes
unfolding extended_reply
returns-in-Words-clause-executes g c = λ told.
    let looks = c.words.ensures.looked in
    let looked = looks.session in
    let h = history c.args.self.now.session.now.scenario in
    rw c.in-Words.is (replies-text g.K.Keeper.may_refuse
    (to_asked (terms c.args.self.now.symbols.now c.args.self.now.rows.now c.args.self.now.first_added) (Words c.in-Words.place c.in-Words.count)) _ _ _ _
    (words_text h (h.after c.args.self.now.position) c.in-Words.place c.in-Words.count) _ _
    (λ answers additions. rw (looked.scenario, looked.steps, looks.position, looks.breakpoints, looks.quiet) refl) (c.as_slice-in-Words.ensures.value ∙ c.words.ensures.text)
    (c.write_all-in-Words.ensures.written told))

pub returns-in-Where-clause-executes : goal.returns-in-Where-clause-executes
unfolding extended_reply
returns-in-Where-clause-executes g c = λ told.
    let looks = c.tell_where.ensures.looked in
    let looked = looks.session in
    rw c.in-Where.is (replies-text g.K.Keeper.may_refuse (to_asked (terms c.args.self.now.symbols.now c.args.self.now.rows.now c.args.self.now.first_added) Where) _ _
    _ _ (where_text c.args.self.now.symbols.now c.args.self.now.rows.now c.args.self.now.session.now.scenario c.args.self.now.position) _ _
    (λ answers additions. rw (looked.scenario, looked.steps, looks.position, looks.breakpoints, looks.quiet) refl) refl (c.tell_where.ensures.writes told))

pub returns-in-Find-clause-executes : goal.returns-in-Find-clause-executes
unfolding extended_reply
returns-in-Find-clause-executes g c = λ told.
    rw c.in-Find.is (replies-text g.K.Keeper.may_refuse
    (to_asked (terms c.args.self.now.symbols.now c.args.self.now.rows.now c.args.self.now.first_added) (Find c.in-Find.beginning)) _ _ _ _
    (found_text c.args.self.now.symbols.now c.in-Find.beginning) (found_text c.args.self.now.symbols.now c.as_slice-in-Find.result.now) _
    (λ answers additions. refl) (ap (found_text c.args.self.now.symbols.now) c.as_slice-in-Find.ensures) (c.find.ensures.writes told))

pub returns-in-Trace-clause-executes : goal.returns-in-Trace-clause-executes
unfolding extended_reply
returns-in-Trace-clause-executes g c = λ told.
    let looks = c.trace.ensures.looked in
    let looked = looks.session in
    rw c.in-Trace.is (replies-text g.K.Keeper.may_refuse
    (to_asked (terms c.args.self.now.symbols.now c.args.self.now.rows.now c.args.self.now.first_added) (Trace c.in-Trace.steps)) _ _ _ _
    (traced_text Steps c.args.self.now.symbols.now c.args.self.now.session.now.scenario c.args.self.now.position c.in-Trace.steps) _ _
    (λ answers additions. rw (looked.scenario, looked.steps, looks.position, looks.breakpoints, looks.quiet) refl) refl (c.trace.ensures.writes told))

pub returns-in-TailSteps-clause-executes : goal.returns-in-TailSteps-clause-executes
unfolding extended_reply
returns-in-TailSteps-clause-executes g c = λ told.
    let looked = c.tail_steps.ensures.looked in
    rw c.in-TailSteps.is (replies-text g.K.Keeper.may_refuse
    (to_asked (terms c.args.self.now.symbols.now c.args.self.now.rows.now c.args.self.now.first_added) (TailSteps c.in-TailSteps.count)) _ _ _ _
    (stepped_tail c.args.self.now.session.now.scenario c.args.self.now.session.now.n c.in-TailSteps.count) _ _
    (λ answers additions. rw (looked.scenario, looked.steps) refl) refl (c.tail_steps.ensures.writes told))

pub returns-in-Inputs-clause-executes : goal.returns-in-Inputs-clause-executes
unfolding extended_reply
returns-in-Inputs-clause-executes g c = λ told.
    rw c.in-Inputs.is (replies-text g.K.Keeper.may_refuse (to_asked (terms c.args.self.now.symbols.now c.args.self.now.rows.now c.args.self.now.first_added) Inputs) _
    _ _ _ (inputs_text c.args.self.now.first_added c.args.self.now.session.now.scenario) _ _ (λ answers additions. refl) refl
    (c.tell_inputs.ensures.writes told))

pub returns-in-Over-clause-executes : goal.returns-in-Over-clause-executes
returns-in-Over-clause-executes g c = λ told. rw c.in-Over.is
    (c.go_over.ensures.executes told)

pub returns-in-Out-clause-executes : goal.returns-in-Out-clause-executes
returns-in-Out-clause-executes g c = λ told. rw c.in-Out.is
    (c.go_out.ensures.executes told)

pub returns-in-Listed-clause-executes : goal.returns-in-Listed-clause-executes
unfolding extended_reply
returns-in-Listed-clause-executes g c = λ told.
    let looks = c.rows.ensures.looked in
    let looked = looks.session in
    let scenario = c.args.self.now.session.now.scenario in
    let h = history scenario in
    rw c.in-Listed.is (replies-text g.K.Keeper.may_refuse
    (to_asked (terms c.args.self.now.symbols.now c.args.self.now.rows.now c.args.self.now.first_added) (Listed c.in-Listed.place c.in-Listed.count)) _ _ _ _
    (rows_text Instruction c.args.self.now.symbols.now c.args.self.now.rows.now scenario.rope h (h.after c.args.self.now.position) c.in-Listed.place
    c.in-Listed.count) _ _ (λ answers additions. rw (looked.scenario, looked.steps, looks.position, looks.breakpoints, looks.quiet) refl) refl (c.rows.ensures.writes told))

pub returns-in-Values-clause-executes : goal.returns-in-Values-clause-executes
unfolding extended_reply
returns-in-Values-clause-executes g c = λ told.
    let looks = c.rows-in-Values.ensures.looked in
    let looked = looks.session in
    let scenario = c.args.self.now.session.now.scenario in
    let h = history scenario in
    rw c.in-Values.is (replies-text g.K.Keeper.may_refuse
    (to_asked (terms c.args.self.now.symbols.now c.args.self.now.rows.now c.args.self.now.first_added) (Values c.in-Values.place c.in-Values.count)) _ _ _ _
    (rows_text Number c.args.self.now.symbols.now c.args.self.now.rows.now scenario.rope h (h.after c.args.self.now.position) c.in-Values.place
    c.in-Values.count) _ _ (λ answers additions. rw (looked.scenario, looked.steps, looks.position, looks.breakpoints, looks.quiet) refl) refl (c.rows-in-Values.ensures.writes told))

pub returns-in-Channels-clause-executes : goal.returns-in-Channels-clause-executes
unfolding extended_reply
returns-in-Channels-clause-executes g c = λ told.
    let looks = c.channels.ensures.looked in
    let looked = looks.session in
    rw c.in-Channels.is (replies-text g.K.Keeper.may_refuse
    (to_asked (terms c.args.self.now.symbols.now c.args.self.now.rows.now c.args.self.now.first_added) Channels) _ _ _ _
    (channels_text (run c.args.self.now.session.now.scenario c.args.self.now.position).cells) _ _
    (λ answers additions. rw (looked.scenario, looked.steps, looks.position, looks.breakpoints, looks.quiet) refl) (c.as_slice-in-Channels.ensures.value ∙ c.channels.ensures.text)
    (c.write_all-in-Channels.ensures.written told))

pub returns-in-Differs-clause-executes : goal.returns-in-Differs-clause-executes
unfolding extended_reply
returns-in-Differs-clause-executes g c = λ told.
    let looks = c.differs.ensures.looked in
    let looked = looks.session in
    rw c.in-Differs.is (replies-text g.K.Keeper.may_refuse
    (to_asked (terms c.args.self.now.symbols.now c.args.self.now.rows.now c.args.self.now.first_added) (Differs c.in-Differs.step)) _ _ _ _
    (differs_text c.args.self.now.session.now.scenario c.args.self.now.session.now.n c.args.self.now.position c.in-Differs.step) _ _
    (λ answers additions. rw (looked.scenario, looked.steps, looks.position, looks.breakpoints, looks.quiet) refl) refl (c.differs.ensures.writes told))

pub returns-in-Survey-clause-executes : goal.returns-in-Survey-clause-executes
unfolding extended_reply
returns-in-Survey-clause-executes g c = λ told.
    let looked = c.survey.ensures.looked in
    rw c.in-Survey.is (replies-text g.K.Keeper.may_refuse
    (to_asked (terms c.args.self.now.symbols.now c.args.self.now.rows.now c.args.self.now.first_added) (Survey c.in-Survey.asked)) _ _ _ _
    (survey_text c.args.self.now.session.now.scenario c.args.self.now.session.now.n c.in-Survey.asked) _ _
    (λ answers additions. rw (looked.scenario, looked.steps) refl) refl (c.survey.ensures.writes told))

pub returns-in-Say-clause-executes : goal.returns-in-Say-clause-executes
unfolding extended_reply
returns-in-Say-clause-executes g c = λ told.
    let looks = c.trace-in-Say.ensures.looked in
    let looked = looks.session in
    rw c.in-Say.is (replies-text g.K.Keeper.may_refuse
    (to_asked (terms c.args.self.now.symbols.now c.args.self.now.rows.now c.args.self.now.first_added) (Say c.in-Say.steps)) _ _ _ _
    (traced_text Sentences c.args.self.now.symbols.now c.args.self.now.session.now.scenario c.args.self.now.position c.in-Say.steps) _ _
    (λ answers additions. rw (looked.scenario, looked.steps, looks.position, looks.breakpoints, looks.quiet) refl) refl (c.trace-in-Say.ensures.writes told))

pub returns-in-WhatIf-clause-executes : goal.returns-in-WhatIf-clause-executes
unfolding extended_reply
returns-in-WhatIf-clause-executes g c = λ told.
    rw c.in-WhatIf.is (replies-same g.K.Keeper.may_refuse
    (to_asked (terms c.args.self.now.symbols.now c.args.self.now.rows.now c.args.self.now.first_added) (WhatIf c.in-WhatIf.trial c.in-WhatIf.extent))
    (tries (program_of c.args.self.now.symbols.now c.args.self.now.rows.now c.args.self.now.session.now.scenario) c.in-WhatIf.trial c.in-WhatIf.extent) _ _ _ _ _
    (λ answers additions. refl) (c.what_if.ensures.executes told))

pub returns-in-WhyInputs-clause-executes : goal.returns-in-WhyInputs-clause-executes
unfolding extended_reply
returns-in-WhyInputs-clause-executes g c = λ told.
    rw c.in-WhyInputs.is (replies-same g.K.Keeper.may_refuse
    (to_asked (terms c.args.self.now.symbols.now c.args.self.now.rows.now c.args.self.now.first_added) (WhyInputs c.in-WhyInputs.subject))
    (tells_inputs c.args.self.now.symbols.now c.in-WhyInputs.subject) _ _ _ _ _ (λ answers additions. refl) (c.why_inputs.ensures.executes told))

pub returns-in-WhyInterrupts-clause-executes : goal.returns-in-WhyInterrupts-clause-executes
unfolding extended_reply
returns-in-WhyInterrupts-clause-executes g c = λ told.
    rw c.in-WhyInterrupts.is (replies-same g.K.Keeper.may_refuse
    (to_asked (terms c.args.self.now.symbols.now c.args.self.now.rows.now c.args.self.now.first_added) (WhyInterrupts c.in-WhyInterrupts.subject))
    (tells_interrupts c.in-WhyInterrupts.subject) _ _ _ _ _ (λ answers additions. refl) (c.why_interrupts.ensures.executes told))

pub returns-in-Calls-clause-executes : goal.returns-in-Calls-clause-executes
unfolding extended_reply
returns-in-Calls-clause-executes g c = λ told.
    let looks = c.calls.ensures.looked in
    let looked = looks.session in
    rw c.in-Calls.is (replies-text g.K.Keeper.may_refuse (to_asked (terms c.args.self.now.symbols.now c.args.self.now.rows.now c.args.self.now.first_added) Calls) _ _
    _ _ (calls_text c.args.self.now.symbols.now c.args.self.now.session.now.scenario c.args.self.now.position) _ _
    (λ answers additions. rw (looked.scenario, looked.steps, looks.position, looks.breakpoints, looks.quiet) refl) (c.as_slice-in-Calls.ensures.value ∙ c.calls.ensures.text)
    (c.write_all-in-Calls.ensures.written told))

pub returns-in-Quiet-clause-executes : goal.returns-in-Quiet-clause-executes
returns-in-Quiet-clause-executes g c = λ told.
    asked-text g.K.Keeper.may_refuse (terms c.args.self.now.symbols.now c.args.self.now.rows.now c.args.self.now.first_added) _ _ _ _ _ _ _ _ _ c.in-Quiet.is
    c.hush.ensures.brings c.as_slice-in-Quiet.ensures.value (c.write_all-in-Quiet.ensures.written told)
