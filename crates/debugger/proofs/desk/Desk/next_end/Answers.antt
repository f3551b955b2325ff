use Rattle.std.proofs.Common.{◌≡◌, ◌∙◌, ◌+◌, ◌-◌, ◌^◌, ◌∷◌, [], min, ap, sym, arith}
use Rattle.std.specs.List.{list_any}
use Rattle.debugger.specs.Stopping.{asks}
use Rattle.debugger.proofs.StopLemmas.{next_led_on, first_end, within_by, step_within}
use Rattle.debugger.proofs.desk.Desk.next_end.Goals as goal

pub led_to-requires : goal.led_to-requires
led_to-requires g c = within_by c.seek_step_on.result (c.args.self.now.position) (c.args.self.now.position + c.min-count.result) (2 ^ 40)
    (omega (arith, c.steps.ensures, c.min-count.ensures)) c.seek_step_on.ensures.between

pub returns-clause-next : goal.returns-clause-next
returns-clause-next g c =
    let s = c.args.self.now.session.now in
    let stops = c.at-stops.result in
    let count : c.min-count.result ≡ min c.args.steps (s.n - c.args.self.now.position) = omega
    (arith, c.steps.ensures.value, c.min-count.ensures) in
    let both = next_led_on s.scenario stops.breakpoints.now (c.args.end.now ∷ []) stops.looks c.args.self.now.position c.min-count.result
    (min c.args.steps (s.n - c.args.self.now.position)) c.seek_step_on.result (c.at-stops.ensures.breakpoints ∙ c.of_one-ends.ensures)
    (c.at-stops.ensures.looks ∙ ap (list_any asks) (sym c.at-stops.ensures.breakpoints)) count c.seek_step_on.ensures.first in
    rw (c.step_of.ensures, c.led_to.ensures) (both.0
    ∙ first_end s.scenario c.args.end.now (c.args.self.now.position + 1) (min c.args.steps (s.n - c.args.self.now.position)))

pub returns-clause-within : goal.returns-clause-within
returns-clause-within g c = rw (c.step_of.ensures, c.led_to.ensures)
    (step_within c.seek_step_on.result c.args.self.now.position (c.args.self.now.position + c.min-count.result) c.args.self.now.session.now.n
    (omega (arith, c.steps.ensures.value, c.min-count.ensures)) c.seek_step_on.ensures.between)
