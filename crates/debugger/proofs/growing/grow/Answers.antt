use Rattle.std.proofs.Common.{◌≡◌, ◌≤◌, ◌-◌, ◌∙◌, ap, arith, length}
use Rattle.std.proofs.lemmas.Result.{err_from_is_err_and}
use Rattle.cpu.specs.Run.{outs}
use Rattle.cpu.specs.State.{Scenario}
use Rattle.debugger.specs.History.{history}
use Rattle.debugger.specs.Growth.{outputs_after}
use Rattle.debugger.specs.Tallies.{Tally, most_counted, tally_of}
use Rattle.debugger.proofs.Hushed.{count_broken, counted_between, grown_told, lines_broken}
use Rattle.debugger.proofs.growing.grow.Goals as goal

pub returns-in_err-ending-clause-growth : goal.returns-in_err-ending-clause-growth
returns-in_err-ending-clause-growth g c = λ told.
    let s = c.args.session.now in
    let p = err_from_is_err_and c.from_residual.result c.from_residual.ensures.1 in
    rw p.1 (lines_broken g.K.Keeper.may_refuse s.scenario c.args.breakpoints.now c.args.more s.n c.args.quiet (g.W.Write.written c.args.out.now)
    (g.W.Write.written c.grow_by.new.out) (c.in_err-ending.ensures.growth told))

pub returns-in_err-tell_count-clause-growth : goal.returns-in_err-tell_count-clause-growth
returns-in_err-tell_count-clause-growth g c = λ told.
    let s = c.args.session.now in
    let m = c.grow_by.new.session.n in
    let before : c.count-before.result ≡ (tally_of (outs s.scenario s.n)).count
    = c.count-before.ensures ∙ ap (λ (t : Tally). t.count) c.requires in
    let after : c.count.result ≡ (tally_of (outs s.scenario m)).count = c.count.ensures
    ∙ ap (λ (t : Tally). t.count) (c.grow_by.ensures.tail ∙ ap (λ (q : Scenario). tally_of (outs q m)) c.grow_by.ensures.scenario) in
    let fits : m ≤ most_counted = omega (arith, c.steps-limited.ensures.limit) in
    let between = counted_between s.scenario s.n m c.grow_by.ensures.forward fits in
    let count : c.saturating_sub.result ≡ length (outputs_after (history s.scenario) s.n (m - s.n)) =
    omega (arith, before, after, between, c.saturating_sub.ensures) in
    let p = err_from_is_err_and c.from_residual-in_err-tell_count.result c.from_residual-in_err-tell_count.ensures.1 in
    rw p.1 (count_broken g.K.Keeper.may_refuse s.scenario c.args.breakpoints.now c.args.more s.n c.args.quiet c.in_ok-ending.ending m
    c.saturating_sub.result (g.W.Write.written c.args.out.now) (g.W.Write.written c.grow_by.new.out) (g.W.Write.written c.tell_count.new.out)
    (c.in_ok-ending.ensures.growth told) count (c.in_err-tell_count.ensures.written told))

pub returns-clause-growth : goal.returns-clause-growth
returns-clause-growth g c = λ told.
    let s = c.args.session.now in
    let m = c.grow_by.new.session.n in
    let before : c.count-before.result ≡ (tally_of (outs s.scenario s.n)).count
    = c.count-before.ensures ∙ ap (λ (t : Tally). t.count) c.requires in
    let after : c.count.result ≡ (tally_of (outs s.scenario m)).count = c.count.ensures
    ∙ ap (λ (t : Tally). t.count) (c.grow_by.ensures.tail ∙ ap (λ (q : Scenario). tally_of (outs q m)) c.grow_by.ensures.scenario) in
    let fits : m ≤ most_counted = omega (arith, c.steps-limited.ensures.limit) in
    let between = counted_between s.scenario s.n m c.grow_by.ensures.forward fits in
    let count : c.saturating_sub.result ≡ length (outputs_after (history s.scenario) s.n (m - s.n)) =
    omega (arith, before, after, between, c.saturating_sub.ensures) in
    grown_told g.K.Keeper.may_refuse s.scenario c.args.breakpoints.now c.args.more s.n c.args.quiet c.in_ok-ending.ending m
    c.saturating_sub.result (g.W.Write.written c.args.out.now) (g.W.Write.written c.grow_by.new.out) (g.W.Write.written c.tell_count.new.out)
    (c.in_ok-ending.ensures.growth told) count (c.in_ok-tell_count.ensures.written told)
