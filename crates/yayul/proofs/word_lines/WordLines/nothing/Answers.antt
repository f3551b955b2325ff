use Rattle.yayul.proofs.word_lines.WordLines.nothing.Goals as goal

pub returns : goal.returns
returns c = rw (c.in_ok-lines.ensures.len, c.in_ok-lines.ensures.items) at c.in_ok-resize.ensures.items
