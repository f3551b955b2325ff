use Rattle.std.proofs.lemmas.Result.{err_from_is_err_and}
use Rattle.words.proofs.Texts.{append-then, beginning-after, beginning-longer}
use Rattle.workshop.proofs.banks.write_assumed.Goals as goal

pub returns-clause-written : goal.returns-clause-written
returns-clause-written g c = λ told.
    append-then _ _ _ _ _
    (append-then _ _ _ _ _ (c.in_ok-count.ensures.written told) (c.in_ok-write_accounts.ensures.written told))
    (c.in_ok-write_assumed_lines.ensures.written told)

pub returns-in_err-write_assumed_lines-clause-written : goal.returns-in_err-write_assumed_lines-clause-written
returns-in_err-write_assumed_lines-clause-written g c = λ told.
    let p = err_from_is_err_and c.from_residual-in_err-write_assumed_lines.result c.from_residual-in_err-write_assumed_lines.ensures.1 in
    rw p.1 (beginning-after _ _ _ _ _
    (append-then _ _ _ _ _ (c.in_ok-count.ensures.written told) (c.in_ok-write_accounts.ensures.written told))
    (c.in_err-write_assumed_lines.ensures.written told))

pub returns-in_err-write_accounts-clause-written : goal.returns-in_err-write_accounts-clause-written
returns-in_err-write_accounts-clause-written g c = λ told.
    let p = err_from_is_err_and c.from_residual-in_err-write_accounts.result c.from_residual-in_err-write_accounts.ensures.1 in
    rw p.1 (beginning-longer _ _ _ _
    (beginning-after _ _ _ _ _ (c.in_ok-count.ensures.written told) (c.in_err-write_accounts.ensures.written told)))

pub returns-in_err-count-clause-written : goal.returns-in_err-count-clause-written
returns-in_err-count-clause-written g c = λ told.
    let p = err_from_is_err_and c.from_residual.result c.from_residual.ensures.1 in
    rw p.1 (beginning-longer _ _ _ _ (beginning-longer _ _ _ _ (c.in_err-count.ensures.written told)))
