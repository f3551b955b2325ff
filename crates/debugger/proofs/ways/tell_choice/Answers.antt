use Rattle.std.proofs.Common.{◌+◌, ◌++◌, ◌∙◌, ◌≤◌, List, ℕ, ap, arith, sym}
use Rattle.std.proofs.lemmas.Result.{err_from_is_err_and}
use Rattle.cpu.specs.State.{Scenario}
use Rattle.cpu.specs.Run.{run}
use Rattle.debugger.specs.Whys.{why_text}
use Rattle.debugger.specs.Ways.{choice_lines, chosen_by, way_lines, way_links}
use Rattle.debugger.proofs.WhyLines.{first_part, two_parts}
use Rattle.debugger.proofs.WayFound.{way_cost}
use Rattle.debugger.proofs.ways.tell_choice.Goals as goal

pub returns-in_err-write_all-clause-writes : goal.returns-in_err-write_all-clause-writes
returns-in_err-write_all-clause-writes g c = λ told.
    let symbols = c.args.symbols.now in
    let scenario = c.args.session.now.scenario in
    let t = c.args.step in
    let rest = why_text symbols scenario way_lines way_links t (chosen_by scenario (run scenario t)) in
    let first = c.as_slice.ensures.value ∙ c.choice_lines-lines.ensures.items
    ∙ ap (λ (q : Scenario). choice_lines symbols q t) c.choice_at-choice.ensures.looked.scenario in
    let failed = err_from_is_err_and c.from_residual.result c.from_residual.ensures.1 in
    rw failed.1 (first_part _ _ c.as_slice.result.now rest _ (ap (λ (y : List ℕ). y ++ rest) (sym first))
    (c.in_err-write_all.ensures.written told))

pub returns-clause-writes : goal.returns-clause-writes
returns-clause-writes g c = λ told.
    let symbols = c.args.symbols.now in
    let scenario = c.args.session.now.scenario in
    let t = c.args.step in
    let xs = chosen_by scenario (run scenario t) in
    let rest = why_text symbols scenario way_lines way_links t xs in
    let scene = c.choice_at-choice.ensures.looked.scenario in
    let there = c.choice_lines-lines.ensures.looked.scenario ∙ scene in
    let first = c.as_slice.ensures.value ∙ c.choice_lines-lines.ensures.items ∙ ap (λ (q : Scenario). choice_lines symbols q t) scene in
    two_parts _ _ _ c.as_slice.result.now rest _ _ (ap (λ (y : List ℕ). y ++ rest) (sym first)) (c.in_ok-write_all.ensures.written told)
    (rw there at (c.chain.ensures.writes xs c.choice_at-choice.ensures.cells told))

pub returns-clause-looked : goal.returns-clause-looked
returns-clause-looked g c =
    let at = c.choice_at-choice.ensures.looked in
    let lines = c.choice_lines-lines.ensures.looked in
    let chain = c.chain.ensures.looked in
    let near : c.choice_at-choice.new.session.meter ≤ c.args.session.now.meter + c.args.session.now.n = omega (arith, at.cost) in
    record {
      scenario = chain.scenario ∙ lines.scenario ∙ at.scenario;
      steps = chain.steps ∙ lines.steps ∙ at.steps;
      cost = way_cost c.args.session.now.meter _ _ _ c.args.session.now.n _ _ near lines.cost chain.cost at.steps lines.steps;
    }
