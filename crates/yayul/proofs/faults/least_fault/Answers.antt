use Rattle.std.proofs.Common.{sym, ◌∙◌, ap, get_or, None, arith}
use Rattle.yayul.specs.Inside.Answers.{lesser_if}
use Rattle.yayul.proofs.Least.{least_standing-more}
use Rattle.yayul.proofs.faults.least_fault.Goals as goal

pub loop-condition-preserved : goal.loop-condition-preserved
loop-condition-preserved c =
    c.lesser_fault-least.ensures
    ∙ ap (λ least. lesser_if least (get_or c.args.conditions.now c.loop-condition.condition-index None)) c.loop-condition.invariant
    ∙ sym (least_standing-more c.args.conditions.now c.loop-condition.condition-index (omega arith))
