use Rattle.yayul.proofs.named.NamedPlaces.nothing.Goals as goal

pub returns : goal.returns
returns c = rw (c.in_ok-places.ensures.len, c.in_ok-places.ensures.items) at c.in_ok-resize.ensures.items
