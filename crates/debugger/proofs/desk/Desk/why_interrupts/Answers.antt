use Rattle.std.proofs.Common.{◌∙◌, Some, None, refl, ap}
use Rattle.std.specs.Prelude.{codes}
use Rattle.origins.specs.Gathering.{Gathering}
use Rattle.debugger.specs.Executions.{desk}
use Rattle.debugger.specs.OriginsTold.{interrupts_told, levels_from, tells_interrupts}
use Rattle.debugger.specs.Replies.{line}
use Rattle.debugger.specs.Whys.{subject_spots}
use Rattle.debugger.proofs.TriedReplies.{replies_trying}
use Rattle.debugger.proofs.desk.Desk.why_interrupts.Goals as goal

pub returns-in-Some-clause-executes : goal.returns-in-Some-clause-executes
unfolding interrupts_told
returns-in-Some-clause-executes g c = λ told.
    let d = desk c.args.self.now.session.now c.args.self.now.position c.args.self.now.breakpoints c.args.self.now.quiet in
    replies_trying g.K.Keeper.may_refuse (tells_interrupts c.args.subject) d d (Some 0) _ _
    (interrupts_told d.scenario d.position (subject_spots c.args.subject)) _ _ (λ answers additions. refl)
    (c.as_slice.ensures.value ∙ c.levels_text.ensures ∙ ap (levels_from 0 0) c.levels.ensures.value
    ∙ ap (λ (chain : Gathering). levels_from 0 0 chain.levels) c.in-Some.ensures) (c.write_all.ensures.written told)

pub returns-in-None-clause-executes : goal.returns-in-None-clause-executes
returns-in-None-clause-executes g c = λ told.
    let d = desk c.args.self.now.session.now c.args.self.now.position c.args.self.now.breakpoints c.args.self.now.quiet in
    replies_trying g.K.Keeper.may_refuse (tells_interrupts c.args.subject) d d None _ _ (line (codes "E2 MEMORY")) _ _
    (λ answers additions. refl) (c.as_slice-in-None.ensures.value ∙ c.text_line.ensures.items) (c.write_all-in-None.ensures.written told)
