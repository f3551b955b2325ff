use Rattle.std.proofs.Common.{◌∙◌, [], slice_get, unwrap_or, ap, sym}
use Rattle.agc_text.specs.Lines.{lines}
use Rattle.diagnostics.proofs.Walked.{first_left}
use Rattle.diagnostics.proofs.lines.line_after.Goals as goal

pub returns-in-Some : goal.returns-in-Some
returns-in-Some c = sym (ap (λ found. unwrap_or found []) (sym (first_left (lines c.args.text.now) c.args.count)
    ∙ ap (λ texts. slice_get texts 0) (sym c.text_beyond.ensures ∙ c.in-Some.ensures.lines)))

pub returns-in-None : goal.returns-in-None
returns-in-None c = sym (ap (λ found. unwrap_or found []) (sym (first_left (lines c.args.text.now) c.args.count)
    ∙ ap (λ texts. slice_get texts 0) (sym c.text_beyond.ensures ∙ c.in-None.ensures.lines)))
