use Rattle.notes.proofs.Booked.{counts_nothing}
use Rattle.notes.proofs.notebook.Notebook.count_plain.Goals as goal

pub returns-else-reaches : goal.returns-else-reaches
returns-else-reaches c = rw c.if-reaches.false (counts_nothing _ _ c.args.place c.self.view_is)
