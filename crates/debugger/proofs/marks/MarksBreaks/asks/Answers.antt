use Rattle.std.proofs.Common.{◌∙◌, sym}
use Rattle.debugger.proofs.MarkLemmas.{unmarked_alike}
use Rattle.debugger.proofs.marks.MarksBreaks.asks.Goals as goal

pub returns : goal.returns
returns c = λ scenario unmarked. unmarked_alike c.args.self.now.breakpoints.now scenario c.args.machine.now
    (sym c.is_marked.ensures ∙ unmarked)
