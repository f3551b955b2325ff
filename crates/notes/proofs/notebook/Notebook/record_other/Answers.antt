use Rattle.std.proofs.Common.{subst, sym}
use Rattle.notes.specs.Counted.{Book, Counted}
use Rattle.notes.proofs.notebook.Notebook.record_other.Goals as goal

pub record_reaching-requires-clause-counted : goal.record_reaching-requires-clause-counted
record_reaching-requires-clause-counted c =
    subst (λ (book : Book). Counted book.named c.args.processor.now.scenario c.args.done book) (sym c.self.view_is) c.requires.counted
