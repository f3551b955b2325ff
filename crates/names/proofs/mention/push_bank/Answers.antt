use Rattle.std.proofs.Common.{sym, append-nil, arith}
use Rattle.rope.specs.Places.{bank_words}
use Rattle.audit.proofs.Steps.{extracode_first, extracode_next}
use Rattle.audit.proofs.PartTexts.{items_more, items_end}
use Rattle.names.specs.Uses.{bank_mentions, mention_at}
use Rattle.names.proofs.mention.push_bank.Goals as goal

pub loop-number-init : goal.loop-number-init
loop-number-init c = record { extra = sym (extracode_first c.args.rope.now c.args.bank); items = sym (append-nil _) }

pub loop-number-preserved : goal.loop-number-preserved
loop-number-preserved c = record {
  extra = extracode_next _ _ _ _ _ _ _ c.offset_of-offset.ensures c.loop-number.invariant.extra c.word.ensures c.extracode_after-extra.ensures;
  items = items_more (mention_at c.args.rope.now c.args.bank) c.loop-number.number _ _ _ c.loop-number.invariant.items
      (rw c.offset_of-offset.ensures at c.in_ok-push_mention.ensures);
}

pub returns : goal.returns
unfolding bank_mentions
returns c = items_end (mention_at c.args.rope.now c.args.bank) c.loop-number.number bank_words _ _ (omega arith)
    c.loop-number.invariant.items
