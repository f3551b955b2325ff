use Rattle.std.proofs.Common.{◌≡◌, ◌∙◌, ◌+◌, ◌-◌, ◌^◌, min, ap, sym, arith}
use Rattle.std.specs.List.{list_any}
use Rattle.debugger.specs.Stopping.{asks}
use Rattle.debugger.proofs.StopLemmas.{next_led_on, within_by, led_by_within}
use Rattle.debugger.proofs.desk.Desk.next_stop.Goals as goal

pub led_to-requires : goal.led_to-requires
led_to-requires g c = within_by c.seek_step_on.result (c.args.self.now.position) (c.args.self.now.position + c.min-count.result) (2 ^ 40)
    (omega (arith, c.steps.ensures, c.min-count.ensures)) c.seek_step_on.ensures.between

pub returns-clause-next : goal.returns-clause-next
returns-clause-next g c =
    let s = c.args.self.now.session.now in
    let stops = c.at-stops.result in
    let count : c.min-count.result ≡ min c.args.steps (s.n - c.args.self.now.position) = omega
    (arith, c.steps.ensures.value, c.min-count.ensures) in
    let both = next_led_on s.scenario stops.breakpoints.now c.args.self.now.breakpoints stops.looks c.args.self.now.position
    c.min-count.result (min c.args.steps (s.n - c.args.self.now.position)) c.seek_step_on.result c.at-stops.ensures.breakpoints
    (c.at-stops.ensures.looks ∙ ap (list_any asks) (sym c.at-stops.ensures.breakpoints)) count c.seek_step_on.ensures.first in
    rw c.led_to.ensures both.0

pub returns-clause-hit : goal.returns-clause-hit
returns-clause-hit g c =
    let s = c.args.self.now.session.now in
    let stops = c.at-stops.result in
    let count : c.min-count.result ≡ min c.args.steps (s.n - c.args.self.now.position) = omega
    (arith, c.steps.ensures.value, c.min-count.ensures) in
    let both = next_led_on s.scenario stops.breakpoints.now c.args.self.now.breakpoints stops.looks c.args.self.now.position
    c.min-count.result (min c.args.steps (s.n - c.args.self.now.position)) c.seek_step_on.result c.at-stops.ensures.breakpoints
    (c.at-stops.ensures.looks ∙ ap (list_any asks) (sym c.at-stops.ensures.breakpoints)) count c.seek_step_on.ensures.first in
    rw c.led_to.ensures both.1

pub returns-clause-within : goal.returns-clause-within
returns-clause-within g c = rw c.led_to.ensures
    (led_by_within c.seek_step_on.result c.args.self.now.position (c.args.self.now.position + c.min-count.result) c.args.self.now.session.now.n
    (omega (arith, c.steps.ensures.value, c.min-count.ensures)) c.seek_step_on.ensures.between)
