use Rattle.yayul.proofs.assembled.Program.named_places.Goals as goal

pub returns : goal.returns
returns c = rw (← c.self.view_is) (c.named_places.ensures c.self.inside.rope)
