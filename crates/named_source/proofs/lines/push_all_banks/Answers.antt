use Rattle.std.proofs.Common.{sym, append-nil, arith}
use Rattle.rope.specs.Places.{banks}
use Rattle.audit.proofs.PartTexts.{items_more, items_end}
use Rattle.named_source.specs.NamedSources.{said_bank}
use Rattle.named_source.proofs.lines.push_all_banks.Goals as goal

pub loop-bank-init : goal.loop-bank-init
loop-bank-init c = sym (append-nil _)

pub loop-bank-preserved : goal.loop-bank-preserved
loop-bank-preserved c =
    items_more (said_bank c.args.labels.now c.args.rope.now) c.loop-bank.bank _ _ _ c.loop-bank.invariant
    (rw c.bank_of.ensures at c.in_ok-push_bank.ensures)

pub returns : goal.returns
returns c = items_end (said_bank c.args.labels.now c.args.rope.now) c.loop-bank.bank banks _ _ (omega arith) c.loop-bank.invariant
