use Rattle.std.proofs.Common.{sym, append-nil, arith}
use Rattle.rope.specs.Places.{banks}
use Rattle.audit.proofs.PartTexts.{items_more, items_end}
use Rattle.names.specs.Uses.{bank_mentions}
use Rattle.names.proofs.mention.push_banks.Goals as goal

pub loop-number-init : goal.loop-number-init
loop-number-init c = sym (append-nil _)

pub loop-number-preserved : goal.loop-number-preserved
loop-number-preserved c =
    items_more (bank_mentions c.args.rope.now) c.loop-number.number _ _ _ c.loop-number.invariant
    (rw c.bank_of.ensures at c.in_ok-push_bank.ensures)

pub returns : goal.returns
returns c = items_end (bank_mentions c.args.rope.now) c.loop-number.number banks _ _ (omega arith) c.loop-number.invariant
