use Rattle.std.proofs.Common.{sym}
use Rattle.audit.proofs.Steps.{sum_first, sum_next}
use Rattle.audit.proofs.sums.bank_sum.Goals as goal

pub loop-number-init : goal.loop-number-init
loop-number-init c = sym (sum_first c.args.rope.now c.args.bank)

pub loop-number-preserved : goal.loop-number-preserved
loop-number-preserved c =
    sum_next c.args.rope.now c.args.bank c.loop-number.number c.offset_of.result c.word.result c.loop-number.total c.added-total.result
    c.offset_of.ensures c.loop-number.invariant c.word.ensures c.added-total.ensures
