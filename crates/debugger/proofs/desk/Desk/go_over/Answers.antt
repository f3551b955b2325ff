use Rattle.std.proofs.Common.{refl}
use Rattle.cpu.specs.Run.{run}
use Rattle.debugger.specs.ExtendedReplies.{extended_reply}
use Rattle.debugger.specs.Routines.{over_end}
use Rattle.debugger.specs.Executions.{goes_to_end}
use Rattle.debugger.proofs.WholeReplies.{replies-same}
use Rattle.debugger.proofs.desk.Desk.go_over.Goals as goal

pub returns-clause-executes : goal.returns-clause-executes
unfolding extended_reply
returns-clause-executes g c = λ told.
    let s = c.args.self.now.session.now in
    let looks = c.over_end-end.ensures.looked in
    let looked = looks.session in
    let end = over_end s.scenario (run s.scenario c.args.self.now.position) in
    replies-same g.K.Keeper.may_refuse _ (goes_to_end end c.args.steps) _ _ _ _ _
    (λ answers additions. refl) (rw (looked.scenario, looked.steps, looks.position, looks.breakpoints, looks.quiet, c.over_end-end.ensures.end) at (c.go_to.ensures.executes told))
