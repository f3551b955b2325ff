use Rattle.std.proofs.Common.{◌≡◌, ◌∙◌, ◌-◌, true, false, sym, ap, arith, is_some}
use Rattle.std.specs.List.{list_any}
use Rattle.debugger.specs.History.{history}
use Rattle.debugger.specs.Growth.{hit_at}
use Rattle.debugger.specs.Stopping.{asks}
use Rattle.debugger.proofs.StopLemmas.{last_led_on, some_still, start_within}
use Rattle.debugger.proofs.desk.Desk.last_stop.Goals as goal

pub returns-then-is_some-clause-last : goal.returns-then-is_some-clause-last
returns-then-is_some-clause-last g c =
    let s = c.args.self.now.session.now in
    let p = c.args.self.now.position in
    let stops = c.at-stops.result in
    let all = last_led_on s.scenario stops.breakpoints.now c.args.self.now.breakpoints stops.looks (p - 1) p c.seek_step_back.result
    c.at-stops.ensures.breakpoints (c.at-stops.ensures.looks ∙ ap (list_any asks) (sym c.at-stops.ensures.breakpoints)) (omega arith)
    c.seek_step_back.ensures.last in
    let some : is_some c.seek_step_back.result ≡ true = some_still c.seek_step_back.result true
    (ap is_some (sym c.led_to-found.ensures) ∙ sym c.is_some.ensures ∙ c.if-is_some.true) in
    rw c.led_to-found.ensures (all.0 some)

pub returns-then-is_some-clause-hit : goal.returns-then-is_some-clause-hit
returns-then-is_some-clause-hit g c =
    let s = c.args.self.now.session.now in
    let p = c.args.self.now.position in
    let stops = c.at-stops.result in
    let all = last_led_on s.scenario stops.breakpoints.now c.args.self.now.breakpoints stops.looks (p - 1) p c.seek_step_back.result
    c.at-stops.ensures.breakpoints (c.at-stops.ensures.looks ∙ ap (list_any asks) (sym c.at-stops.ensures.breakpoints)) (omega arith)
    c.seek_step_back.ensures.last in
    rw c.led_to-found.ensures all.1

pub returns-clause-last : goal.returns-clause-last
returns-clause-last g c =
    let s = c.args.self.now.session.now in
    let p = c.args.self.now.position in
    let stops = c.at-stops.result in
    let all = last_led_on s.scenario stops.breakpoints.now c.args.self.now.breakpoints stops.looks (p - 1) p c.seek_step_back.result
    c.at-stops.ensures.breakpoints (c.at-stops.ensures.looks ∙ ap (list_any asks) (sym c.at-stops.ensures.breakpoints)) (omega arith)
    c.seek_step_back.ensures.last in
    let none : is_some c.seek_step_back.result ≡ false = some_still c.seek_step_back.result false
    (ap is_some (sym c.led_to-found.ensures) ∙ sym c.is_some.ensures ∙ c.if-is_some.false) in
    all.2 none c.stop_at_start.result (c.stop_at_start.ensures s.scenario)

pub returns-clause-before : goal.returns-clause-before
returns-clause-before g c = start_within c.stop_at_start.result (hit_at (history c.args.self.now.session.now.scenario) c.args.self.now.breakpoints 0)
    _ (c.stop_at_start.ensures c.args.self.now.session.now.scenario)
