use Rattle.std.proofs.Common.{◌∙◌, sym, refl, arith}
use Rattle.audit.proofs.CheckSums.{room_more}
use Rattle.audit.proofs.check_words.add_check_words.Goals as goal

pub loop-number-init : goal.loop-number-init
loop-number-init c = record { room = λ b lt. absurd (omega (arith, lt)); same = refl }

pub returns-then-not-has_room : goal.returns-then-not-has_room
returns-then-not-has_room c = (
  record {
    within = rw c.bank_of-bank.ensures c.loop-number-test.true;
    full = sym c.has_room.ensures ∙ c.if-not-has_room.true;
    before = rw c.bank_of-bank.ensures c.loop-number.invariant.room;
  },
  refl,
)

pub loop-number-preserved : goal.loop-number-preserved
loop-number-preserved c = record {
  room = room_more c.args.rope.now c.loop-number.number c.loop-number.invariant.room
      (rw c.bank_of-bank.ensures at (sym c.has_room.ensures ∙ c.if-not-has_room.false));
  same = refl;
}

pub add_to_banks-requires : goal.add_to_banks-requires
add_to_banks-requires c = λ bank lt. c.loop-number.invariant.room bank (omega (arith, lt, c.loop-number-test.false))

pub returns : goal.returns
returns c = (λ bank lt. c.loop-number.invariant.room bank (omega (arith, lt, c.loop-number-test.false)), c.add_to_banks.ensures)
