use Rattle.certain.proofs.places.UncertainPlaces.none.Goals as goal

pub returns : goal.returns
returns c = rw (c.in_ok-forms.ensures.len, c.in_ok-forms.ensures.items) at c.in_ok-resize.ensures.items
