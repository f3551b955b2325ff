use Rattle.std.proofs.lemmas.Result.{err_from_is_err_and}
use Rattle.words.proofs.Texts.{Writes-after, beginning-longer}
use Rattle.audit.specs.SourceLines.{bank_line, bank_source, octal_line, octal_lines}
use Rattle.audit.proofs.source.SourceTextsBankText.write.Goals as goal

pub returns-in_err-write_all-clause-written : goal.returns-in_err-write_all-clause-written
unfolding bank_source
returns-in_err-write_all-clause-written g c = λ told.
    let p = err_from_is_err_and c.from_residual.result c.from_residual.ensures.1 in
    rw p.1 (beginning-longer _ _ (bank_line c.args.bank) (octal_lines c.args.rope.now c.args.bank)
    (rw (c.as_slice.ensures.value, c.bank_line.ensures) at (c.in_err-write_all.ensures.written told)))

pub returns-clause-written : goal.returns-clause-written
unfolding bank_source octal_lines octal_line
returns-clause-written g c = λ told.
    Writes-after _ _ _ (bank_line c.args.bank) (octal_lines c.args.rope.now c.args.bank) _
    (rw (c.as_slice.ensures.value, c.bank_line.ensures) at (c.in_ok-write_all.ensures.written told)) (c.write_words_of.ensures.written told)
