use Rattle.std.proofs.Common.{◌∙◌, sym}
use Rattle.std.proofs.lemmas.Result.{err_from_is_err_and}
use Rattle.words.proofs.Texts.{Writes-after, beginning-longer}
use Rattle.rope.specs.Dumps.{word_of}
use Rattle.audit.specs.Damages.{verdict, wrong_head, wrong_text}
use Rattle.audit.proofs.wrong_words.write_wrong_word.Goals as goal

pub returns-in_err-write_all-clause-written : goal.returns-in_err-write_all-clause-written
unfolding wrong_text
returns-in_err-write_all-clause-written g c = λ written.
    let p = err_from_is_err_and c.from_residual.result c.from_residual.ensures.1 in
    rw (sym c.is_wrong.ensures ∙ c.if-not-is_wrong.false)
    (rw p.1 (beginning-longer _ _ (wrong_head c.args.image.now c.args.bank c.args.offset)
    (verdict c.args.image.now c.args.turned c.args.bank (word_of c.args.image.now c.args.bank c.args.offset))
    (rw (c.as_slice.ensures.value, c.wrong_head.ensures) at (c.in_err-write_all.ensures.written written))))

pub returns-clause-written : goal.returns-clause-written
unfolding wrong_text
returns-clause-written g c = λ written.
    rw (sym c.is_wrong.ensures ∙ c.if-not-is_wrong.false)
    (Writes-after _ _ _ (wrong_head c.args.image.now c.args.bank c.args.offset)
    (verdict c.args.image.now c.args.turned c.args.bank (word_of c.args.image.now c.args.bank c.args.offset)) _
    (rw (c.as_slice.ensures.value, c.wrong_head.ensures) at (c.in_ok-write_all.ensures.written written))
    (rw c.word.ensures at (c.write_verdict.ensures.written written)))
