use Rattle.std.proofs.Common.{◌≡◌, ◌∙◌, None, Some, refl, sym}
use Rattle.debugger.specs.History.{history}
use Rattle.debugger.specs.ExtendedReplies.{further}
use Rattle.debugger.specs.Routines.{next_end}
use Rattle.debugger.specs.Executions.{desk, goes_to_end, grows_to_end}
use Rattle.debugger.proofs.WholeReplies.{replies-text, replies-same}
use Rattle.debugger.proofs.desk.Desk.go_to.Goals as goal

pub returns-in-Some-clause-executes : goal.returns-in-Some-clause-executes
unfolding history
returns-in-Some-clause-executes g c = λ told.
    let s = c.args.self.now.session.now in
    let looks = c.next_end.ensures.looked in
    let looked = looks.session in
    let shows = c.arrival_text-text.ensures.looked in
    let shown = shows.session in
    let scene = shown.scenario ∙ looked.scenario in
    let steps = shown.steps ∙ looked.steps in
    let some : next_end (further (history s.scenario)) (desk s c.args.self.now.position c.args.self.now.breakpoints c.args.self.now.quiet) c.args.end.now
    c.args.steps ≡ Some c.in-Some.step = sym c.next_end.ensures.next ∙ c.in-Some.is in
    replies-text g.K.Keeper.may_refuse (goes_to_end c.args.end.now c.args.steps) _ _ _ _ c.arrival_text-text.result.items _ _
    (λ answers additions. rw (some, scene, steps, shows.position, shows.breakpoints, shows.quiet, looks.breakpoints, looks.quiet, c.arrival_text-text.ensures.text, looked.scenario, c.requires) refl)
    c.as_slice.ensures.value (c.write_all.ensures.written told)

pub returns-in-None-clause-executes : goal.returns-in-None-clause-executes
returns-in-None-clause-executes g c = λ told.
    let s = c.args.self.now.session.now in
    let looks = c.next_end.ensures.looked in
    let looked = looks.session in
    let none : next_end (further (history s.scenario)) (desk s c.args.self.now.position c.args.self.now.breakpoints c.args.self.now.quiet) c.args.end.now
    c.args.steps ≡ None = sym c.next_end.ensures.next ∙ c.in-None.is in
    replies-same g.K.Keeper.may_refuse (goes_to_end c.args.end.now c.args.steps) (grows_to_end c.args.end.now c.args.steps) _ _ _ _ _
    (λ answers additions. rw none refl) (rw (looked.scenario, looked.steps, looks.position, looks.breakpoints, looks.quiet) at (c.grow_to.ensures.executes told))
