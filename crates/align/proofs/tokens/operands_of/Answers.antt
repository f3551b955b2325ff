use Rattle.std.proofs.Common.{[], arith}
use Rattle.rope.specs.Places.{banks}
use Rattle.align.specs.Tokens.{bank_operands, operands}
use Rattle.audit.proofs.PartTexts.{items_more, items_end}
use Rattle.align.proofs.tokens.operands_of.Goals as goal

pub loop-bank-preserved : goal.loop-bank-preserved
loop-bank-preserved c =
    items_more (bank_operands c.args.rope.now) c.loop-bank.bank [] _ _ c.loop-bank.invariant
    (rw c.bank_of.ensures at c.in_ok-push_operands.ensures)

pub returns : goal.returns
unfolding operands
returns c = items_end (bank_operands c.args.rope.now) c.loop-bank.bank banks [] _ (omega arith) c.loop-bank.invariant
