use Rattle.std.proofs.Common.{◌∙◌, [], ap}
use Rattle.std.specs.List.{fold}
use Rattle.agc_text.specs.Lines.{lines}
use Rattle.yayul.specs.Program.{Source}
use Rattle.yayul.specs.ReadLines.{parts_on}
use Rattle.yayul.specs.Readings.{parts_for}
use Rattle.diagnostics.specs.Report.{with_label}
use Rattle.diagnostics.proofs.ReadTexts.{labels_whole}
use Rattle.diagnostics.proofs.reporting.labels_of.Goals as goal

pub returns : goal.returns
returns c =
    let source = c.args.source.now in
    let rest = lines c.beyond.result.now in
    c.in_ok-add_labels_beyond.ensures
    ∙ ap (λ language. fold (λ labels text. with_label labels (parts_for language text)) c.add_labels.new.labels rest) c.language.ensures
    ∙ ap (λ held. fold (λ labels text. with_label labels (parts_for source.language text)) held rest)
    (c.in_ok-add_labels.ensures
    ∙ ap (λ start. fold (λ labels (line : Source). with_label labels (parts_on line)) start c.lines.result.now) c.new-labels.ensures
    ∙ ap (fold (λ labels (line : Source). with_label labels (parts_on line)) []) c.lines.ensures.lines)
    ∙ labels_whole source rest c.beyond.ensures
