use Rattle.std.proofs.Common.{sym}
use Rattle.audit.proofs.Steps.{extracode_first, extracode_next}
use Rattle.names.proofs.lines.extracode_before.Goals as goal

pub loop-number-init : goal.loop-number-init
loop-number-init c = sym (extracode_first c.args.rope.now c.args.bank)

pub loop-number-preserved : goal.loop-number-preserved
loop-number-preserved c =
    extracode_next c.args.rope.now c.args.bank c.loop-number.number c.offset_of.result c.word.result c.loop-number.extra _
    c.offset_of.ensures c.loop-number.invariant c.word.ensures c.extracode_after-extra.ensures
