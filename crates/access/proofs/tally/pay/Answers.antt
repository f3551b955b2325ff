use Rattle.std.proofs.Common.{take, ap, ◌∙◌, length, get_or}
use Rattle.std.proofs.lemmas.List.{length-set, take_more}
use Rattle.access.proofs.Counting.{below_at, paid_more, pay_fits}
use Rattle.access.proofs.tally.pay.Goals as goal

pub pay_one-requires-clause-within : goal.pay_one-requires-clause-within
pay_one-requires-clause-within c =
    rw c.loop-slot.invariant.each (below_at _ c.args.slots.now c.loop-slot.slot-index 0 c.requires.known c.loop-slot-test.true)

pub pay_one-requires-clause-small : goal.pay_one-requires-clause-small
pay_one-requires-clause-small c =
    let i = c.loop-slot.slot-index in
    let slots = c.args.slots.now in
    let it = get_or slots i 0 in
    pay_fits slots i it c.args.times _ _ (take_more slots i 0 c.loop-slot-test.true) (c.loop-slot.invariant.paid it) (c.requires.small it)

pub loop-slot-preserved : goal.loop-slot-preserved
loop-slot-preserved c =
    let i = c.loop-slot.slot-index in
    let slots = c.args.slots.now in
    let it = get_or slots i 0 in
    record {
      each = ap length c.pay_one.ensures ∙ length-set _ it _ ∙ c.loop-slot.invariant.each;
      paid = λ k. rw (take_more slots i 0 c.loop-slot-test.true)
          (paid_more _ _ _ (take i slots) it c.args.times
          (rw c.loop-slot.invariant.each (below_at _ slots i 0 c.requires.known c.loop-slot-test.true)) c.loop-slot.invariant.paid
          c.pay_one.ensures k);
    }
