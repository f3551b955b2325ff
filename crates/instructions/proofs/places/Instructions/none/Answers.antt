use Rattle.instructions.proofs.places.Instructions.none.Goals as goal

pub returns : goal.returns
returns c = rw (c.in_ok-marks.ensures.len, c.in_ok-marks.ensures.items) at c.in_ok-resize.ensures.items
