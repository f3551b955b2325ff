use Rattle.diagnostics.proofs.reporting.push_shown_error.Goals as goal

pub returns : goal.returns
returns c = rw (c.line_at.ensures.parts, c.line_at.ensures.text, c.from.ensures) at c.push_shown_line.ensures
