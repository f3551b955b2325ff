use Rattle.std.proofs.Common.{◌∙◌, sym}
use Rattle.std.specs.Prelude.{codes}
use Rattle.std.proofs.lemmas.Result.{err_from_is_err_and}
use Rattle.words.proofs.Texts.{Writes-after, beginning-longer}
use Rattle.audit.specs.Damages.{candidates}
use Rattle.audit.proofs.wrong_words.write_verdict.Goals as goal

pub returns-in_err-write_candidates-clause-written : goal.returns-in_err-write_candidates-clause-written
returns-in_err-write_candidates-clause-written g c = λ written.
    let p = err_from_is_err_and c.from_residual.result c.from_residual.ensures.1 in
    rw (sym c.requires.told ∙ c.if-not-told.false)
    (rw p.1 (beginning-longer _ _ (candidates c.args.image.now c.args.turned c.args.bank c.args.word) (codes " BY THE SUM\n")
    (c.in_err-write_candidates.ensures.written written)))

pub returns-clause-written : goal.returns-clause-written
returns-clause-written g c = λ written.
    rw (sym c.requires.told ∙ c.if-not-told.false)
    (Writes-after _ _ _ (candidates c.args.image.now c.args.turned c.args.bank c.args.word) (codes " BY THE SUM\n") _
    (c.in_ok-write_candidates.ensures.written written) (c.write_all-2.ensures.written written))
