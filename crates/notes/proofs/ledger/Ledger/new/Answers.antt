use Rattle.notes.proofs.ledger.Ledger.new.Goals as goal

pub returns : goal.returns
returns c = rw (c.in_ok-counts.ensures.len, c.in_ok-counts.ensures.items) at c.in_ok-resize.ensures.items
