use Rattle.std.proofs.Common.{◌∙◌, ◌+◌, ◌++◌, ◌∷◌, [], ℕ, List, ap, sym, arith, rules}
use Rattle.std.specs.FinSet.{contains}
use Rattle.origins.specs.Following.{cells_of}
use Rattle.origins.proofs.CellNumbers.{counted, cells_start, cell_passed, cell_taken, cells_end, cell_is, has_cell_at}
use Rattle.origins.proofs.links.cells_of.Goals.{in-Some+then-contains, in-Some+else-contains, in_default}
use Rattle.origins.proofs.links.cells_of.Goals as goal

pub loop-number-init : goal.loop-number-init
loop-number-init c = record {
  items = ap (λ (xs : List ℕ). xs ++ counted (contains c.args.pending.now) 0) c.new-cells.ensures ∙ cells_start c.args.pending.now;
  len = search rules;
}

pub loop-number-preserved : goal.loop-number-preserved
loop-number-preserved c =
    let pending = c.args.pending.now in
    let number = c.loop-number.number in
    let far = c.loop-number.invariant in
    elim c.match-try_new.branch [
      | in-Some+then-contains w ↦
          let same = cell_is number w.in-Some.cell c.loop-number-test.true w.in-Some.ensures in
          rw w.cells-is (record {
            items = ap (λ (xs : List ℕ). xs ++ counted (contains pending) (number + 1))
                (w.push.ensures.items ∙ ap (λ (n : ℕ). c.loop-number.cells.items ++ n ∷ []) same)
                ∙ cell_taken (contains pending) number c.loop-number.cells.items (cells_of pending)
                (ap (contains pending) (sym same) ∙ sym w.if-contains.ensures) c.loop-number-test.true far.items;
            len = omega (arith, w.push.ensures.len, far.len);
          })
      | in-Some+else-contains w ↦
          let same = cell_is number w.in-Some.cell c.loop-number-test.true w.in-Some.ensures in
          rw w.cells-is (record {
            items = cell_passed (contains pending) number c.loop-number.cells.items (cells_of pending)
                (ap (contains pending) (sym same) ∙ sym w.if-contains.ensures) c.loop-number-test.true far.items;
            len = omega (arith, far.len);
          })
      | in_default w ↦ absurd (has_cell_at number c.loop-number-test.true w.in_default.ensures)
    ]

pub returns : goal.returns
returns c = cells_end (contains c.args.pending.now) c.loop-number.number c.loop-number.cells.items (cells_of c.args.pending.now)
    (omega (arith, c.loop-number-test.false)) c.loop-number.invariant.items
