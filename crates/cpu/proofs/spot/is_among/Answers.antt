use Rattle.std.proofs.Common.{◌≡◌, ◌∙◌, ◌+◌, suc, false, take, subst, sym, arith}
use Rattle.cpu.specs.Links.{is_in}
use Rattle.cpu.proofs.CellSets.{among_more, among_found}
use Rattle.cpu.proofs.spot.is_among.Goals as goal

pub returns-then-eq : goal.returns-then-eq
returns-then-eq c = sym (among_found c.args.cell c.args.cells.now c.loop-index.index c.index-cells-index.result c.loop-index-test.true
    c.index-cells-index.is (sym c.eq.ensures ∙ c.if-eq.true))

pub loop-index-preserved : goal.loop-index-preserved
loop-index-preserved c =
    let i = c.loop-index.index in
    let next : suc i ≡ i + 1 = omega arith in
    subst (λ n. is_in c.args.cell (take n c.args.cells.now) ≡ false) next
    (among_more c.args.cell c.args.cells.now i c.index-cells-index.result c.loop-index-test.true c.index-cells-index.is
    c.loop-index.invariant (sym c.eq.ensures ∙ c.if-eq.false))
