use Rattle.std.proofs.Common.{◌∙◌, sym, ap, arith}
use Rattle.rope.specs.Places.{slot_at}
use Rattle.rope.proofs.PlaceLaws.{slot_at-words_of}
use Rattle.rope.proofs.memory.Rope.slot.Goals as goal

pub returns : goal.returns
returns c =
    c.slot_of.ensures
    ∙ rw (c.deref.ensures.value, c.slot_number.ensures)
    (sym (slot_at-words_of c.self.inside.slots.items c.args.bank c.args.offset c.self.invariant.1 (omega arith)))
    ∙ ap (λ words. slot_at words c.args.bank c.args.offset) c.self.view_is
