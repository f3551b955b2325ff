use Rattle.std.proofs.Common.{refl}
use Rattle.debugger.specs.History.{history}
use Rattle.debugger.specs.Replies.{answer, reply}
use Rattle.debugger.proofs.desk.Desk.last.Goals as goal

pub returns-clause-brings : goal.returns-clause-brings
unfolding answer reply history
returns-clause-brings g c = λ m answers additions.
    let looks = c.last_change.ensures.looked in
    rw (c.last_line.ensures, c.last_change.ensures.last, looks.session.scenario, looks.session.steps, looks.position, looks.breakpoints, looks.quiet) refl
