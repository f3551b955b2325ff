use Rattle.std.proofs.lemmas.Result.{err_from_is_err_and}
use Rattle.debugger.specs.History.{history, sight}
use Rattle.debugger.proofs.Standings.{row_begun}
use Rattle.debugger.proofs.rows.write_list_row.Goals as goal

pub returns-in_err-write_row_of-clause-writes : goal.returns-in_err-write_row_of-clause-writes
returns-in_err-write_row_of-clause-writes g c = λ told.
    let failed = err_from_is_err_and c.from_residual.result c.from_residual.ensures.1 in
    let scenario = c.args.processor.now.scenario in
    rw failed.1 (row_begun c.args.symbols.now c.args.rows.now scenario.rope (history scenario) (sight scenario.rope c.args.machine.now)
    c.args.place.now _ _
    (rw (c.word_at-word.ensures, c.rope.ensures) at (c.in_err-write_row_of.ensures.written told)))
