use Rattle.std.proofs.Common.{ℕ, ◌-◌, ◌++◌, ◌∙◌, true, List, ap, sym, arith}
use Rattle.std.proofs.lemmas.Result.{err_from_is_err_and}
use Rattle.cpu.specs.State.{Scenario}
use Rattle.cpu.specs.Chains.{cells_among, before_step}
use Rattle.origins.specs.Following.{CellSet, cells_of}
use Rattle.debugger.specs.Whys.{end_from, end_text, link_lines, target_spots}
use Rattle.debugger.proofs.WhyLines.{first_part, two_parts, last_lines}
use Rattle.debugger.proofs.desk.Desk.why_step.Goals as goal

pub returns-in_err-write_all-clause-writes : goal.returns-in_err-write_all-clause-writes
returns-in_err-write_all-clause-writes g c = λ told.
    let symbols = c.args.self.now.symbols.now in
    let scenario = c.args.self.now.session.now.scenario in
    let t = c.args.self.now.position - 1 in
    let xs = target_spots scenario t in
    let scene = c.cells_written-pending.ensures.looked.scenario in
    let first = c.as_slice.ensures.value ∙ c.link_lines.ensures.lines xs c.cells_written-pending.ensures.cells
    ∙ ap (λ (q : Scenario). link_lines symbols q c.args.lines t xs) scene in
    let failed = err_from_is_err_and c.from_residual.result c.from_residual.ensures.1 in
    rw failed.1 (first_part _ _ c.as_slice.result.now _ _
    (last_lines symbols scenario c.args.lines c.args.self.now.position (omega (arith, c.if-self-eq0.false))
    ∙ ap (λ (y : List ℕ). y ++ end_from symbols true (before_step scenario t xs)) (sym first))
    (c.in_err-write_all.ensures.written told))

pub returns-clause-writes : goal.returns-clause-writes
returns-clause-writes g c = λ told.
    let symbols = c.args.self.now.symbols.now in
    let scenario = c.args.self.now.session.now.scenario in
    let t = c.args.self.now.position - 1 in
    let xs = target_spots scenario t in
    let pending = c.cells_written-pending.ensures.cells in
    let scene = c.cells_written-pending.ensures.looked.scenario in
    let first = c.as_slice.ensures.value ∙ c.link_lines.ensures.lines xs pending
    ∙ ap (λ (q : Scenario). link_lines symbols q c.args.lines t xs) scene in
    let cells = c.link_lines.ensures.pending xs pending ∙ ap (λ (q : Scenario). cells_among (before_step q t xs)) scene in
    let last = c.as_slice-2.ensures.value ∙ c.end_text.ensures ∙ ap (λ (cells : CellSet). end_text symbols true (cells_of cells)) cells in
    two_parts _ _ _ c.as_slice.result.now c.as_slice-2.result.now _ _
    (last_lines symbols scenario c.args.lines c.args.self.now.position (omega (arith, c.if-self-eq0.false))
    ∙ ap (λ (y : List ℕ). y ++ end_from symbols true (before_step scenario t xs)) (sym first)
    ∙ ap (λ (y : List ℕ). c.as_slice.result.now ++ y) (sym last))
    (c.in_ok-write_all.ensures.written told)
    (c.write_all-3.ensures.written told)
