use Rattle.std.proofs.Common.{sym}
use Rattle.audit.proofs.Steps.{form_sum_first, form_sum_next}
use Rattle.audit.proofs.form_sums.form_sum.Goals as goal

pub loop-number-init : goal.loop-number-init
loop-number-init c = sym (form_sum_first c.args.order c.args.version c.args.rope.now c.args.bank)

pub loop-number-preserved : goal.loop-number-preserved
loop-number-preserved c =
    form_sum_next c.args.order c.args.version c.args.rope.now c.args.bank c.loop-number.number c.offset_of.result c.word-word.result
    c.form_word.result c.loop-number.total c.added-total.result
    c.offset_of.ensures c.loop-number.invariant c.word-word.ensures c.form_word.ensures c.added-total.ensures
