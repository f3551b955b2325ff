use Rattle.std.proofs.Common.{◌∙◌, sym}
use Rattle.debugger.proofs.MarkLemmas.{unmarked_none}
use Rattle.debugger.proofs.marks.MarksBreaks.lowest_unnoted.Goals as goal

pub returns-then-not-is_marked : goal.returns-then-not-is_marked
returns-then-not-is_marked c = λ rope step alike. unmarked_none c.args.self.now.breakpoints.now c.args.machine.now rope step
    (sym c.is_marked.ensures ∙ c.if-not-is_marked.true) alike
