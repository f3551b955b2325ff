use Rattle.std.proofs.Common.{◌≡◌, ◌+◌, ◌++◌, ◌∷◌, [], take, sym, ap, ◌∙◌, arith}
use Rattle.std.specs.List.{flat_map}
use Rattle.std.proofs.lemmas.List.{take_more, append_assoc}
use Rattle.access.specs.Accesses.{slots}
use Rattle.access.proofs.Counting.{writes_more}
use Rattle.access.proofs.step_slots.push_writes.Goals as goal

pub loop-cell-preserved : goal.loop-cell-preserved
loop-cell-preserved c =
    let i = c.loop-cell.cell-index in
    let cells = c.args.cells.now in
    let view = c.args.view.now in
    let it = c.cell-item.result in
    let before = flat_map (slots view c.args.number c.args.level 1) (take i cells) in
    let part = slots view c.args.number c.args.level 1 it in
    let one_more : take (i + 1) cells ≡ take i cells ++ it ∷ [] =
    take_more cells i it c.loop-cell-test.true ∙ ap (λ x. take i cells ++ x ∷ []) (sym c.cell-item.is) in
    let parts = writes_more view c.args.number c.args.level (take (i + 1) cells) (take i cells) it one_more in
    record {
      items = c.push_cell.ensures.items ∙ ap (λ xs. xs ++ part) c.loop-cell.invariant.items
          ∙ append_assoc c.args.found.now.items before part ∙ ap (λ xs. c.args.found.now.items ++ xs) (sym parts);
      known = c.push_cell.ensures.known;
      len = (let le = c.push_cell.ensures.len in let was = c.loop-cell.invariant.len in omega (arith, le, was));
    }
