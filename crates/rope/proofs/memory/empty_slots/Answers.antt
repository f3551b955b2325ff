use Rattle.rope.proofs.memory.empty_slots.Goals as goal

pub returns : goal.returns
returns c = rw (c.in_ok-slots.ensures.len, c.in_ok-slots.ensures.items) at c.in_ok-resize.ensures.items
