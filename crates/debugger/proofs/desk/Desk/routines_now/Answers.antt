use Rattle.std.proofs.Common.{◌≡◌, ◌∙◌, ap, refl}
use Rattle.cpu.specs.State.{Scenario}
use Rattle.cpu.specs.Run.{run}
use Rattle.debugger.specs.Routines.{routines, routines_inside}
use Rattle.debugger.proofs.desk.Desk.routines_now.Goals as goal

pub returns-clause-outside : goal.returns-clause-outside
unfolding routines
returns-clause-outside g c =
    let s = c.args.self.now.session.now in
    let p = c.args.self.now.position in
    let shown : c.in-Ok.machine.now ≡ run s.scenario p = rw c.routines_before-routines.ensures.looked.position at c.in-Ok.ensures.shown
    ∙ ap (λ (q : Scenario). run q p) c.routines_before-routines.ensures.looked.session.scenario in
    c.arrive.ensures.outside ∙ rw (shown, c.routines_before-routines.ensures.outside) refl

pub returns-clause-inside : goal.returns-clause-inside
unfolding routines_inside
returns-clause-inside g c =
    let s = c.args.self.now.session.now in
    let p = c.args.self.now.position in
    let shown : c.in-Ok.machine.now ≡ run s.scenario p = rw c.routines_before-routines.ensures.looked.position at c.in-Ok.ensures.shown
    ∙ ap (λ (q : Scenario). run q p) c.routines_before-routines.ensures.looked.session.scenario in
    c.arrive.ensures.inside ∙ rw (shown, c.routines_before-routines.ensures.inside) refl
