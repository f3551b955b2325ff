use Rattle.std.proofs.Common.{◌≡◌, ◌∙◌, None, Some, refl, sym}
use Rattle.debugger.specs.History.{history}
use Rattle.debugger.specs.ExtendedReplies.{extended_reply, first_at}
use Rattle.debugger.specs.Executions.{makes_until}
use Rattle.debugger.proofs.WholeReplies.{replies-text, replies-same}
use Rattle.debugger.proofs.desk.Desk.until.Goals as goal

pub returns-in-Some-clause-executes : goal.returns-in-Some-clause-executes
unfolding extended_reply
returns-in-Some-clause-executes g c = λ told.
    let s = c.args.self.now.session.now in
    let looked = c.first_at.ensures.looked in
    let shows = c.position_text.ensures.looked in
    let shown = shows.session in
    let scene = shown.scenario ∙ looked.scenario in
    let steps = shown.steps ∙ looked.steps in
    let some : first_at (history s.scenario) s.n c.args.cycles ≡ Some c.in-Some.step = sym c.first_at.ensures.first ∙ c.in-Some.is in
    replies-text g.K.Keeper.may_refuse _ _ _ _ _ c.position_text.result.items _ _
    (λ answers additions. rw (some, scene, steps, shows.position, shows.breakpoints, shows.quiet, c.position_text.ensures.text, looked.scenario) refl) c.as_slice.ensures.value
    (c.write_all.ensures.written told)

pub returns-in-None-clause-executes : goal.returns-in-None-clause-executes
unfolding extended_reply
returns-in-None-clause-executes g c = λ told.
    let s = c.args.self.now.session.now in
    let looked = c.first_at.ensures.looked in
    let none : first_at (history s.scenario) s.n c.args.cycles ≡ None = sym c.first_at.ensures.first ∙ c.in-None.is in
    replies-same g.K.Keeper.may_refuse _ (makes_until c.args.cycles) _ _ _ _ _
    (λ answers additions. rw none refl) (rw (looked.scenario, looked.steps) at (c.grow_until.ensures.executes told))
