use Rattle.std.proofs.Common.{Some, None, ap, refl}
use Rattle.std.specs.Option.{option_map}
use Rattle.debugger.specs.History.{no_step}
use Rattle.debugger.proofs.StopLemmas.{at_the_start}
use Rattle.debugger.proofs.desk.Desk.stop_at_start.Goals as goal

pub returns-in-Some : goal.returns-in-Some
returns-in-Some g c = λ scenario.
    ap (option_map (λ i. (0, i))) (at_the_start scenario c.as_slice.result.now c.args.self.now.breakpoints c.start.result
    (Some c.in-Some.number) c.as_slice.ensures c.start.ensures.start
    (c.in-Some.ensures scenario.rope no_step (λ index other seen below. refl)))

pub returns-in-None : goal.returns-in-None
returns-in-None g c = λ scenario.
    ap (option_map (λ i. (0, i))) (at_the_start scenario c.as_slice.result.now c.args.self.now.breakpoints c.start.result None
    c.as_slice.ensures c.start.ensures.start (c.in-None.ensures scenario.rope no_step (λ index other seen below. refl)))
