use Rattle.std.proofs.Common.{◌∙◌, sym}
use Rattle.audit.proofs.OctalSteps.{reads_refused}
use Rattle.audit.proofs.octal_words.octal_words.Goals as goal

pub returns-in_default-take_line : goal.returns-in_default-take_line
returns-in_default-take_line c = sym (c.loop-line.invariant.left
    ∙ reads_refused _ _ _ _ _ c.in-Some.ensures.lines c.in_default-take_line.ensures)
