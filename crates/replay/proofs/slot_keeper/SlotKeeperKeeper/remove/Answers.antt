use Rattle.replay.proofs.SlotLemmas.{slotted_removed, images_removed, steps-images_in}
use Rattle.std.proofs.lemmas.List.{get_or_read}
use Rattle.std.proofs.Common.{ℕ, sym, ap}
use Rattle.replay.proofs.slot_keeper.SlotKeeperKeeper.remove.Goals as goal

pub take_entry-slot-requires : goal.take_entry-slot-requires
take_entry-slot-requires c =
    let k = c.args.self.now in
    rw (← steps-images_in k.slots.items k.entries.items) c.requires

pub invariant_of-self : goal.invariant_of-self
invariant_of-self c =
    let k = c.args.self.now in
    let (place, below, is, left) = c.take_entry-slot.ensures in
    record {
      slotted = rw (c.push.ensures.items, left)
          (slotted_removed k.slots.items k.entries.items k.free.items place (c.args.step, c.take_entry-slot.result) k.slotted below is);
    }

pub returns : goal.returns
returns c =
    let k = c.args.self.now in
    let (place, below, is, left) = c.take_entry-slot.ensures in
    rw left (images_removed k.slots.items k.entries.items place c.args.step k.slotted.rising below
    (ap (λ (m : ℕ × ℕ). m.0) (sym (get_or_read k.entries.items place (c.args.step, c.take_entry-slot.result) below is (0, 0)))))
