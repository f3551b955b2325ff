use Rattle.std.proofs.Common.{◌∙◌, Some, None, ap, if◌then◌else◌, sym}
use Rattle.std.proofs.lemmas.Bool.{lt-ltb}
use Rattle.differ.proofs.Cells.{first_found}
use Rattle.differ.proofs.states.first_cell.Goals as goal

pub returns-then-is_apart : goal.returns-then-is_apart
returns-then-is_apart c =
    let found = first_found c.args.here.now.cells c.args.there.now.cells c.loop-number.number 0o5000 c.loop-number-test.true
    c.loop-number.invariant.none (sym c.is_apart.ensures ∙ c.if-is_apart.true) in
    c.try_new.ensures ∙ ap (λ b. if b then Some c.loop-number.number else None) (lt-ltb c.loop-number.number 0o5000 c.loop-number-test.true)
    ∙ sym found
