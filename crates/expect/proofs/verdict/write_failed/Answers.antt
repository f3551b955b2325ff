use Rattle.std.proofs.Common.{◌++◌}
use Rattle.std.proofs.lemmas.Result.{err_from_is_err_and}
use Rattle.words.proofs.Texts.{Writes-after, beginning-after, beginning-longer}
use Rattle.expect.specs.Facts.{cited, facts_of}
use Rattle.expect.specs.Verdicts.{back_text, front_text}
use Rattle.expect.proofs.verdict.write_failed.Goals as goal

pub returns-clause-written : goal.returns-clause-written
returns-clause-written g c = λ told.
    let facts = facts_of c.args.known.now in
    let line = cited facts c.args.watch.now.stated.claim in
    let back = back_text c.args.watch.now c.args.failure.now in
    Writes-after _ _ _ (front_text facts c.args.watch.now c.args.failure.now) (line ++ back) c.write_all-3.result
    (rw (c.as_slice.ensures.value, c.front_text.ensures) at (c.in_ok-write_all.ensures.written told))
    (Writes-after _ _ _ line back c.write_all-3.result (rw c.cited.ensures at (c.in_ok-write_all-2.ensures.written told))
    (rw (c.as_slice-2.ensures.value, c.back_text.ensures) at (c.write_all-3.ensures.written told)))

pub returns-in_err-write_all-clause-written : goal.returns-in_err-write_all-clause-written
returns-in_err-write_all-clause-written g c = λ told.
    let p = err_from_is_err_and c.from_residual.result c.from_residual.ensures.1 in
    let facts = facts_of c.args.known.now in
    let line = cited facts c.args.watch.now.stated.claim in
    let back = back_text c.args.watch.now c.args.failure.now in
    rw p.1 (beginning-longer _ _ (front_text facts c.args.watch.now c.args.failure.now) (line ++ back)
    (rw (c.as_slice.ensures.value, c.front_text.ensures) at (c.in_err-write_all.ensures.written told)))

pub returns-in_err-write_all-2-clause-written : goal.returns-in_err-write_all-2-clause-written
returns-in_err-write_all-2-clause-written g c = λ told.
    let p = err_from_is_err_and c.from_residual-in_err-write_all-2.result c.from_residual-in_err-write_all-2.ensures.1 in
    let facts = facts_of c.args.known.now in
    let line = cited facts c.args.watch.now.stated.claim in
    let back = back_text c.args.watch.now c.args.failure.now in
    rw p.1 (beginning-after _ _ _ (front_text facts c.args.watch.now c.args.failure.now) (line ++ back)
    (rw (c.as_slice.ensures.value, c.front_text.ensures) at (c.in_ok-write_all.ensures.written told))
    (beginning-longer _ _ line back (rw c.cited.ensures at (c.in_err-write_all-2.ensures.written told))))
