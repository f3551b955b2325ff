use Rattle.notes.proofs.known.KnownWords.nothing.Goals as goal

pub returns : goal.returns
returns c = rw (c.in_ok-words.ensures.len, c.in_ok-words.ensures.items) at c.in_ok-resize.ensures.items
