use Rattle.std.proofs.Common.{refl, ap, ◌∙◌}
use Rattle.yayul.specs.Survey.{some_stands}
use Rattle.yayul.specs.Inside.WordLines.{with_lines}
use Rattle.yayul.proofs.SurveyByLine.{laid_done}
use Rattle.yayul.proofs.survey.Survey.lay.Goals as goal

pub returns-in-Ok-clause-leads : goal.returns-in-Ok-clause-leads
returns-in-Ok-clause-leads c = λ s here.
    laid_done c.args.line s c.args.self.now _ c.args.label c.args.operation
    (ap some_stands (c.requires c.args.line s here)) here
    (c.in-Ok.ensures s.layout here.agrees).1 (c.hold.ensures
    ∙ ap (λ count. with_lines c.args.line c.args.self.now.layout.location count c.args.self.now.lines) c.width.ensures) refl refl
