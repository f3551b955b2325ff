use Rattle.std.proofs.Common.{[], Bool, cond, not, ap, sym, ◌∙◌}
use Rattle.cpu.specs.Run.{run}
use Rattle.debugger.specs.WhysSince.{entered_since, since_step}
use Rattle.debugger.specs.Whys.{last_outside}
use Rattle.debugger.proofs.SinceFound.{since_is}
use Rattle.debugger.proofs.why_since.mark_since.Goals as goal

pub returns-in-Some-clause-items : goal.returns-in-Some-clause-items
returns-in-Some-clause-items g c =
    let scenario = c.args.session.now.scenario in
    let found = c.in-Some.ensures.last ∙ since_is (λ t. not (run scenario t).inside) c.args.since c.args.step in
    let inside = sym c.requires.known ∙ c.if-not-inside.false in
    c.entered_mark.ensures.items ∙ ap (entered_since c.args.since) found
    ∙ ap (λ (b : Bool). cond b (entered_since c.args.since (since_step c.args.since (last_outside scenario c.args.step))) [])
    (sym inside)

pub returns-in-None-clause-items : goal.returns-in-None-clause-items
returns-in-None-clause-items g c =
    let scenario = c.args.session.now.scenario in
    let found = c.in-None.ensures.last ∙ since_is (λ t. not (run scenario t).inside) c.args.since c.args.step in
    let inside = sym c.requires.known ∙ c.if-not-inside.false in
    c.before_mark.ensures.items ∙ ap (entered_since c.args.since) found
    ∙ ap (λ (b : Bool). cond b (entered_since c.args.since (since_step c.args.since (last_outside scenario c.args.step))) [])
    (sym inside)
