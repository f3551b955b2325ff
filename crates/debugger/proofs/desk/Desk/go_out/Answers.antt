use Rattle.std.proofs.Common.{◌≡◌, ◌∙◌, None, Some, refl, sym}
use Rattle.cpu.specs.Run.{run}
use Rattle.debugger.specs.ExtendedReplies.{extended_reply}
use Rattle.debugger.specs.Routines.{out_end, routines}
use Rattle.debugger.specs.Executions.{goes_to_end}
use Rattle.debugger.proofs.WholeReplies.{replies-text, replies-same}
use Rattle.debugger.proofs.desk.Desk.go_out.Goals as goal

pub returns-in-Some-clause-executes : goal.returns-in-Some-clause-executes
unfolding extended_reply
returns-in-Some-clause-executes g c = λ told.
    let s = c.args.self.now.session.now in
    let p = c.args.self.now.position in
    let looks = c.out_end-end.ensures.looked in
    let looked = looks.session in
    let some : out_end (run s.scenario p) (routines s.scenario p) ≡ Some c.in-Some.end = sym c.out_end-end.ensures.end ∙ c.in-Some.is in
    replies-same g.K.Keeper.may_refuse _ (goes_to_end c.in-Some.end c.args.steps) _ _ _ _ _
    (λ answers additions. rw some refl) (rw (looked.scenario, looked.steps, looks.position, looks.breakpoints, looks.quiet) at (c.go_to.ensures.executes told))

pub returns-in-None-clause-executes : goal.returns-in-None-clause-executes
unfolding extended_reply
returns-in-None-clause-executes g c = λ told.
    let s = c.args.self.now.session.now in
    let p = c.args.self.now.position in
    let looks = c.out_end-end.ensures.looked in
    let looked = looks.session in
    let none : out_end (run s.scenario p) (routines s.scenario p) ≡ None = sym c.out_end-end.ensures.end ∙ c.in-None.is in
    replies-text g.K.Keeper.may_refuse _ _ _ _ _ _ _ _
    (λ answers additions. rw (none, looked.scenario, looked.steps, looks.position, looks.breakpoints, looks.quiet) refl) refl (c.write_all.ensures.written told)
