use Rattle.std.proofs.Common.{sym, append-nil, arith}
use Rattle.rope.specs.Places.{bank_words}
use Rattle.audit.proofs.Steps.{extracode_first, extracode_next}
use Rattle.align.specs.Tokens.{bank_tokens, token_at}
use Rattle.audit.proofs.PartTexts.{items_more, items_end}
use Rattle.align.proofs.Steps.{token_next}
use Rattle.align.proofs.tokens.push_bank.Goals as goal

pub loop-number-init : goal.loop-number-init
loop-number-init c = record { extra = sym (extracode_first c.args.rope.now c.args.bank); items = sym (append-nil _) }

pub loop-number-preserved : goal.loop-number-preserved
loop-number-preserved c = record {
  extra = extracode_next _ _ _ _ _ _ _ c.offset_of.ensures c.loop-number.invariant.extra c.word-word.ensures c.extracode_after-extra.ensures;
  items = items_more (token_at c.args.names.now c.args.rope.now c.args.bank) c.loop-number.number _ _ _ c.loop-number.invariant.items
      (rw (token_next c.args.names.now c.args.rope.now c.args.bank c.loop-number.number c.filled-filled.result c.word-word.result
      c.loop-number.extra c.ends_checked-checked.result c.entry.result
      c.filled-filled.ensures.is (rw c.offset_of.ensures at c.word-word.ensures) c.loop-number.invariant.extra
      c.ends_checked-checked.ensures c.entry.ensures) at c.in_ok-push.ensures.items);
}

pub returns : goal.returns
unfolding bank_tokens
returns c = items_end (token_at c.args.names.now c.args.rope.now c.args.bank) c.loop-number.number bank_words _ _ (omega arith)
    c.loop-number.invariant.items
