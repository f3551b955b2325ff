use Rattle.std.proofs.Common.{ℕ, Option, Some, ap, ◌∙◌}
use Rattle.std.specs.Option.{option_map}
use Rattle.cpu.specs.State.{Scenario}
use Rattle.cpu.specs.Chains.{link_at}
use Rattle.replay.specs.View.{SessionView}
use Rattle.debugger.specs.Whys.{index_line}
use Rattle.debugger.proofs.Indexing.{found_executed}
use Rattle.debugger.proofs.index_lines.moved_line.Goals as goal

pub returns-in-Some-clause-items : goal.returns-in-Some-clause-items
returns-in-Some-clause-items g c =
    let scenario = c.args.session.now.scenario in
    let scene = ap (λ (v : SessionView). v.scenario) c.in-Some.ensures.after.same in
    let found = ap (option_map (λ (r : ℕ × ℕ). r.0)) c.in-Some.ensures.last ∙ found_executed (link_at scenario) c.args.step in
    c.index_line.ensures.items
    ∙ ap (λ (q : Scenario). index_line c.args.symbols.now q c.args.sum (Some c.in-Some.index)) scene
    ∙ ap (λ (o : Option ℕ). index_line c.args.symbols.now scenario c.args.sum o) found

pub returns-in-None-clause-items : goal.returns-in-None-clause-items
returns-in-None-clause-items g c =
    let scenario = c.args.session.now.scenario in
    let found = ap (option_map (λ (r : ℕ × ℕ). r.0)) c.in-None.ensures.last ∙ found_executed (link_at scenario) c.args.step in
    c.new.ensures ∙ ap (λ (o : Option ℕ). index_line c.args.symbols.now scenario c.args.sum o) found
