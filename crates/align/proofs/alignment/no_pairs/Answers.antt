use Rattle.align.proofs.alignment.no_pairs.Goals as goal

pub returns : goal.returns
returns c = rw (c.in_ok-pairs.ensures.len, c.in_ok-pairs.ensures.items) at c.in_ok-resize.ensures.items
