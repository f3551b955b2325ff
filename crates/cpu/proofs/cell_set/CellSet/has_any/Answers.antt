use Rattle.std.proofs.Common.{◌≡◌, ◌∙◌, ◌+◌, suc, false, take, subst, sym, arith}
use Rattle.cpu.specs.Chains.{is_any_in}
use Rattle.cpu.proofs.CellSets.{any_more, any_found}
use Rattle.cpu.proofs.cell_set.CellSet.has_any.Goals as goal

pub returns-then-contains : goal.returns-then-contains
returns-then-contains c =
    sym (any_found c.args.self.now c.args.cells.now c.loop-index.index c.index-cells-index.result c.loop-index-test.true
    c.index-cells-index.is
    (sym c.contains.ensures ∙ c.if-contains.true))

pub loop-index-preserved : goal.loop-index-preserved
loop-index-preserved c =
    let i = c.loop-index.index in
    let next : suc i ≡ i + 1 = omega arith in
    subst (λ n. is_any_in (take n c.args.cells.now) c.args.self.now ≡ false) next
    (any_more c.args.self.now c.args.cells.now i c.index-cells-index.result c.loop-index-test.true c.index-cells-index.is
    c.loop-index.invariant
    (sym c.contains.ensures ∙ c.if-contains.false))
