use Rattle.std.proofs.Common.{◌∙◌, Some, None, refl}
use Rattle.std.specs.Prelude.{codes}
use Rattle.debugger.specs.Executions.{desk}
use Rattle.debugger.specs.OriginsTold.{inputs_told, tells_inputs}
use Rattle.debugger.specs.Replies.{line}
use Rattle.debugger.specs.Whys.{subject_spots}
use Rattle.debugger.proofs.TriedReplies.{replies_trying}
use Rattle.debugger.proofs.desk.Desk.why_inputs.Goals as goal

pub returns-in-Some-clause-executes : goal.returns-in-Some-clause-executes
unfolding inputs_told
returns-in-Some-clause-executes g c = λ told.
    let d = desk c.args.self.now.session.now c.args.self.now.position c.args.self.now.breakpoints c.args.self.now.quiet in
    replies_trying g.K.Keeper.may_refuse (tells_inputs c.args.self.now.symbols.now c.args.subject) d d (Some 0) _ _
    (inputs_told c.args.self.now.symbols.now d.scenario d.position (subject_spots c.args.subject)) _ _ (λ answers additions. refl) refl
    (rw (c.in-Some.ensures, c.processor.ensures) at (c.write_gathered.ensures.writes told))

pub returns-in-None-clause-executes : goal.returns-in-None-clause-executes
returns-in-None-clause-executes g c = λ told.
    let d = desk c.args.self.now.session.now c.args.self.now.position c.args.self.now.breakpoints c.args.self.now.quiet in
    replies_trying g.K.Keeper.may_refuse (tells_inputs c.args.self.now.symbols.now c.args.subject) d d None _ _ (line (codes "E2 MEMORY")) _ _
    (λ answers additions. refl) (c.as_slice.ensures.value ∙ c.text_line.ensures.items) (c.write_all.ensures.written told)
