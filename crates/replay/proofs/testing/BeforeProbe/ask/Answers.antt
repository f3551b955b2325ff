use Rattle.std.proofs.Common.{refl}
use Rattle.std.specs.Fn.{FnReturnsAt}
use Rattle.replay.proofs.testing.BeforeProbe.ask.Goals as goal

pub returns-clause-answers : goal.returns-clause-answers
returns-clause-answers g c =
    let returned : FnReturnsAt g.F.Fn c.args.self.now.hit.now c.args.machine.now c.hit-holds.result = record
    { shown = _; shows = refl; says = record { met = c.hit-holds.ensures } } in
    (c.hit-holds.result, returned, c.found_if.ensures)
