use Rattle.std.proofs.Common.{◌≡◌, Option, refl, sym, ap}
use Rattle.std.specs.Fn.{FnReturnsAt}
use Rattle.cpu.specs.Next.{next}
use Rattle.cpu.specs.State.{State}
use Rattle.cpu.specs.declared.output.Output.{Output}
use Rattle.replay.proofs.testing.AfterProbe.ask.Goals as goal

pub returns-clause-answers : goal.returns-clause-answers
returns-clause-answers g c =
    let returned : FnReturnsAt g.F.Fn c.args.self.now.hit.now c.make_step.new.machine c.hit-holds.result = record
    { shown = _; shows = refl; says = record { met = c.hit-holds.ensures } } in
    let stands : c.make_step.new.machine ≡ (next c.args.processor.now.scenario c.args.machine.now).0 = ap
    (λ (p : State × Option Output). p.0) (c.make_step.ensures.step c.requires.cycles c.requires.fits) in
    (c.hit-holds.result, rw (sym stands) returned, c.found_if.ensures)
