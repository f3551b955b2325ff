use Rattle.std.proofs.Common.{ℕ, Option, Some, ap, ◌∙◌}
use Rattle.cpu.specs.State.{Scenario}
use Rattle.cpu.specs.Beside.{is_instruction}
use Rattle.cpu.specs.Chains.{link_at}
use Rattle.debugger.specs.Whys.{index_line}
use Rattle.debugger.proofs.SinceFound.{since_is}
use Rattle.debugger.proofs.why_since.moved_since.Goals as goal

pub returns-in-Some-clause-items : goal.returns-in-Some-clause-items
returns-in-Some-clause-items g c =
    let scenario = c.args.session.now.scenario in
    let found = c.in-Some.ensures.last ∙ since_is (λ t. is_instruction (link_at scenario t)) c.args.since c.args.step in
    c.index_line.ensures.items
    ∙ ap (λ (q : Scenario). index_line c.args.symbols.now q c.args.sum (Some c.in-Some.index)) c.in-Some.ensures.looked.scenario
    ∙ ap (λ (o : Option ℕ). index_line c.args.symbols.now scenario c.args.sum o) found

pub returns-in-None-clause-items : goal.returns-in-None-clause-items
returns-in-None-clause-items g c =
    let scenario = c.args.session.now.scenario in
    let found = c.in-None.ensures.last ∙ since_is (λ t. is_instruction (link_at scenario t)) c.args.since c.args.step in
    c.new.ensures ∙ ap (λ (o : Option ℕ). index_line c.args.symbols.now scenario c.args.sum o) found
