use Rattle.std.proofs.Common.{◌≡◌, ◌∙◌, ap, refl}
use Rattle.cpu.specs.State.{Scenario}
use Rattle.cpu.specs.Run.{run}
use Rattle.debugger.specs.Routines.{routines}
use Rattle.debugger.proofs.desk.Desk.out_end.Goals as goal

pub returns-clause-end : goal.returns-clause-end
unfolding routines
returns-clause-end g c =
    let s = c.args.self.now.session.now in
    let p = c.args.self.now.position in
    let shown : c.in-Ok.machine.now ≡ run s.scenario p = rw c.routines_before-routines.ensures.looked.position at c.in-Ok.ensures.shown
    ∙ ap (λ (q : Scenario). run q p) c.routines_before-routines.ensures.looked.session.scenario in
    c.out_end.ensures ∙ rw (shown, c.routines_before-routines.ensures.outside) refl
