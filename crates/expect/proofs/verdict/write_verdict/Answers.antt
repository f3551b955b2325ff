use Rattle.agc_text.specs.Fields.{runs, texts}
use Rattle.std.proofs.Common.{◌++◌}
use Rattle.std.proofs.lemmas.Result.{err_from_is_err_and}
use Rattle.words.proofs.Texts.{Writes-after, beginning-after, beginning-longer}
use Rattle.expect.specs.Facts.{facts_of}
use Rattle.expect.specs.Verdicts.{failure_text, name_text, verdict_word}
use Rattle.expect.proofs.verdict.write_verdict.Goals as goal

pub returns-clause-written : goal.returns-clause-written
returns-clause-written g c = λ told.
    let name = name_text (texts (runs c.args.name.now)) in
    let rest = failure_text (facts_of c.args.known.now) c.args.failed.now in
    Writes-after _ _ _ (verdict_word c.args.failed.now) (name ++ rest) c.write_failure.result
    (rw c.verdict_word.ensures at (c.in_ok-write_all.ensures.written told))
    (Writes-after _ _ _ name rest c.write_failure.result (c.in_ok-write_name.ensures.written told) (c.write_failure.ensures.written told))

pub returns-in_err-write_name-clause-written : goal.returns-in_err-write_name-clause-written
returns-in_err-write_name-clause-written g c = λ told.
    let p = err_from_is_err_and c.from_residual-in_err-write_name.result c.from_residual-in_err-write_name.ensures.1 in
    let name = name_text (texts (runs c.args.name.now)) in
    let rest = failure_text (facts_of c.args.known.now) c.args.failed.now in
    rw p.1 (beginning-after _ _ _ (verdict_word c.args.failed.now) (name ++ rest)
    (rw c.verdict_word.ensures at (c.in_ok-write_all.ensures.written told))
    (beginning-longer _ _ name rest (c.in_err-write_name.ensures.written told)))
