use Rattle.std.proofs.Common.{◌≡◌, ◌∙◌, None, Some, refl, sym}
use Rattle.debugger.specs.History.{history}
use Rattle.debugger.specs.Growth.{hit_at}
use Rattle.debugger.specs.ExtendedReplies.{extended_reply, next_stop}
use Rattle.debugger.specs.Executions.{desk, grows_on}
use Rattle.debugger.proofs.WholeReplies.{replies-text, replies-same}
use Rattle.debugger.proofs.desk.Desk.go_on.Goals as goal

pub returns-in-Some-clause-executes : goal.returns-in-Some-clause-executes
unfolding extended_reply
returns-in-Some-clause-executes g c = λ told.
    let s = c.args.self.now.session.now in
    let looks = c.in-Some.ensures.looked in
    let looked = looks.session in
    let shows = c.stop_text.ensures.looked in
    let shown = shows.session in
    let scene = shown.scenario ∙ looked.scenario in
    let steps = shown.steps ∙ looked.steps in
    let some : Some c.in-Some.step ≡ next_stop (history s.scenario) (desk s c.args.self.now.position c.args.self.now.breakpoints c.args.self.now.quiet)
    c.args.steps = c.in-Some.ensures.next in
    let hit : Some c.in-Some.number ≡ hit_at (history s.scenario) c.args.self.now.breakpoints c.in-Some.step = c.in-Some.ensures.hit in
    replies-text g.K.Keeper.may_refuse _ _ _ _ _ c.stop_text.result.items _ _
    (λ answers additions. rw (← some, ← hit, scene, steps, shows.position, shows.breakpoints, shows.quiet, looks.breakpoints, looks.quiet, c.stop_text.ensures.text, looked.scenario) refl) c.as_slice.ensures.value
    (c.write_all.ensures.written told)

pub returns-in-None-clause-executes : goal.returns-in-None-clause-executes
unfolding extended_reply
returns-in-None-clause-executes g c = λ told.
    let s = c.args.self.now.session.now in
    let looks = c.in-None.ensures.looked in
    let looked = looks.session in
    let none : next_stop (history s.scenario) (desk s c.args.self.now.position c.args.self.now.breakpoints c.args.self.now.quiet) c.args.steps
    ≡ None = sym c.in-None.ensures.next in
    replies-same g.K.Keeper.may_refuse _ (grows_on c.args.steps) _ _ _ _ _
    (λ answers additions. rw none refl) (rw (looked.scenario, looked.steps, looks.position, looks.breakpoints, looks.quiet) at (c.grow_on.ensures.executes told))
