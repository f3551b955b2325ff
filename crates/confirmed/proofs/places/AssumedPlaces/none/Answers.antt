use Rattle.confirmed.proofs.places.AssumedPlaces.none.Goals as goal

pub returns : goal.returns
returns c = rw (c.in_ok-held.ensures.len, c.in_ok-held.ensures.items) at c.in_ok-resize.ensures.items
