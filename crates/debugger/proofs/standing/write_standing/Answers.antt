use Rattle.std.proofs.lemmas.Result.{err_from_is_err_and}
use Rattle.words.proofs.Texts.{Writes-after, beginning-longer}
use Rattle.debugger.specs.Standing.{where_line, next_row}
use Rattle.debugger.proofs.standing.write_standing.Goals as goal

pub returns-clause-writes : goal.returns-clause-writes
returns-clause-writes g c = λ told.
    let first = rw (c.as_slice.ensures.value, c.where_line.ensures) at (c.in_ok-write_all.ensures.written told) in
    let then = rw c.standing_place-place.ensures at (c.write_list_row.ensures.writes told) in
    Writes-after _ _ _ (where_line c.args.symbols.now c.args.processor.now.scenario.rope c.args.machine.now)
    (next_row c.args.symbols.now c.args.rows.now c.args.processor.now.scenario c.args.machine.now) c.write_list_row.result first then

pub returns-in_err-write_all-clause-writes : goal.returns-in_err-write_all-clause-writes
returns-in_err-write_all-clause-writes g c = λ told.
    let failed = err_from_is_err_and c.from_residual.result c.from_residual.ensures.1 in
    rw failed.1 (beginning-longer _ _ _ (next_row c.args.symbols.now c.args.rows.now c.args.processor.now.scenario c.args.machine.now)
    (rw (c.as_slice.ensures.value, c.where_line.ensures) at (c.in_err-write_all.ensures.written told)))
