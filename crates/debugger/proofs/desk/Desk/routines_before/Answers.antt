use Rattle.std.proofs.Common.{◌<◌, ◌^◌, refl, arith}
use Rattle.debugger.specs.Followed.{Follower}
use Rattle.debugger.specs.declared.routines.Routines.{Routines}
use Rattle.debugger.proofs.Entered.{seen}
use Rattle.debugger.proofs.desk.Desk.routines_before.Goals as goal

abbrev view : Routines → Follower
view r = record { steps = r.steps; outer = r.outside.list.items; inner = r.inside.list.items }

pub returns-clause-outside : goal.returns-clause-outside
returns-clause-outside g c =
    let none = c.none-routines.ensures in
    let small : c.args.self.now.position < 2 ^ 64 = omega (arith, c.args.self.now.within, c.steps-limited.ensures.limit, c.steps-limited.ensures.value)
    in
    (seen _ view (λ w q s v h. h) c.args.self.now.session.now.scenario c.args.self.now.position _ _ small
    (rw (none.steps, none.outside, none.inside) refl) c.look_over.ensures.looked).outside

pub returns-clause-inside : goal.returns-clause-inside
returns-clause-inside g c =
    let none = c.none-routines.ensures in
    let small : c.args.self.now.position < 2 ^ 64 = omega (arith, c.args.self.now.within, c.steps-limited.ensures.limit, c.steps-limited.ensures.value)
    in
    (seen _ view (λ w q s v h. h) c.args.self.now.session.now.scenario c.args.self.now.position _ _ small
    (rw (none.steps, none.outside, none.inside) refl) c.look_over.ensures.looked).inside
