use Rattle.std.proofs.Common.{◌≡◌, ◌∙◌, ◌-◌, ◌<◌, Some, length, ltb-true, slice_get, ap, sym}
use Rattle.std.proofs.lemmas.Option.{slice_get-get_or}
use Rattle.yayul.specs.ReadLines.{lines_of}
use Rattle.yayul.specs.Readings.{parts_in}
use Rattle.diagnostics.proofs.ReadTexts.{read_parts}
use Rattle.diagnostics.proofs.lines.line_at.Goals as goal

pub returns-in-Some-clause-parts : goal.returns-in-Some-clause-parts
returns-in-Some-clause-parts c =
    let lines = c.lines.result.now in
    let index = c.saturating_sub-index.result in
    let line = c.in-Some.line.now in
    let within : index < length lines = ltb-true index (length lines) (sym c.in-Some.ensures.lookup.0) in
    let there : slice_get (lines_of c.args.source.now) (c.args.line - 1) ≡ Some line
    = ap (λ ls. slice_get ls (c.args.line - 1)) (sym c.lines.ensures.lines)
    ∙ ap (slice_get lines) (sym c.saturating_sub-index.ensures)
    ∙ slice_get-get_or lines index line within ∙ ap Some (sym c.in-Some.ensures.lookup.1) in
    read_parts c.args.source.now line (c.args.line - 1) (parts_in c.reading.result) there c.reading.ensures
