use Rattle.std.proofs.Common.{◌≡◌, ◌∙◌, ◌+◌, ◌<◌, length, ap, sym, arith}
use Rattle.std.specs.List.{position_or_len}
use Rattle.agc_text.specs.Lines.{lines}
use Rattle.yayul.specs.ReadLines.{lines_of}
use Rattle.diagnostics.specs.ReadSources.{has_label_on}
use Rattle.diagnostics.specs.Report.{has_label}
use Rattle.diagnostics.proofs.ReadTexts.{label_beyond, label_read}
use Rattle.diagnostics.proofs.reporting.first_line.Goals as goal

pub returns-then-count-lines : goal.returns-then-count-lines
returns-then-count-lines c =
    let source = c.args.source.now.read.now in
    let label = c.args.label.now in
    let here : c.count_before_label-count.result ≡ position_or_len (has_label_on label) (lines_of source)
    = c.count_before_label-count.ensures.value ∙ ap (position_or_len (has_label_on label)) c.lines-lines.ensures.lines in
    let long : length c.lines-lines.result.now ≡ length (lines_of source) = ap length c.lines-lines.ensures.lines in
    let lt : position_or_len (has_label_on label) (lines_of source) < length (lines_of source) = omega arith in
    ap (λ n. n + 1) here ∙ sym (label_read source label lt)

pub returns : goal.returns
returns c =
    let source = c.args.source.now.read.now in
    let label = c.args.label.now in
    let rest = lines c.beyond.result.now in
    let here : c.count_before_label-count.result ≡ position_or_len (has_label_on label) (lines_of source)
    = c.count_before_label-count.ensures.value ∙ ap (position_or_len (has_label_on label)) c.lines-lines.ensures.lines in
    let long : length c.lines-lines.result.now ≡ length (lines_of source) = ap length c.lines-lines.ensures.lines in
    let none : position_or_len (has_label_on label) (lines_of source) ≡ length (lines_of source) = omega arith in
    let later : c.count_before_label_beyond-later.result ≡ position_or_len (has_label source.language label) rest
    = c.count_before_label_beyond-later.ensures.value ∙ ap (λ language. position_or_len (has_label language label) rest) c.language.ensures in
    ap (λ n. n + c.count_before_label_beyond-later.result + 1) here
    ∙ ap (λ m. position_or_len (has_label_on label) (lines_of source) + m + 1) later
    ∙ sym (label_beyond source label rest none c.beyond.ensures)
