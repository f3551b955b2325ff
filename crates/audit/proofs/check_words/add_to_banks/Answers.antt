use Rattle.std.proofs.Common.{◌∙◌, sym}
use Rattle.audit.proofs.CheckSums.{checks_none, more, room_later}
use Rattle.audit.proofs.check_words.add_to_banks.Goals as goal

pub loop-number-init : goal.loop-number-init
loop-number-init c = checks_none c.args.rope.now

pub add_to_bank-requires-clause-room : goal.add_to_bank-requires-clause-room
add_to_bank-requires-clause-room c = rw (c.loop-number.invariant, c.bank_of.ensures)
    (room_later c.args.rope.now c.loop-number.number c.loop-number-test.true c.requires)

pub loop-number-preserved : goal.loop-number-preserved
loop-number-preserved c = (rw (c.loop-number.invariant, c.bank_of.ensures) at c.add_to_bank.ensures)
    ∙ sym (more c.args.rope.now c.loop-number.number)
