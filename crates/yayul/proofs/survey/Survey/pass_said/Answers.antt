use Rattle.std.proofs.Common.{◌+◌, subst, sym}
use Rattle.yayul.specs.Survey.{done_line, label_lost}
use Rattle.yayul.specs.Inside.Surveys.{Surveys}
use Rattle.yayul.proofs.SurveyByLine.{on_ok}
use Rattle.yayul.proofs.survey.Survey.pass_said.Goals as goal

pub returns-then-kept-clause-leads : goal.returns-then-kept-clause-leads
returns-then-kept-clause-leads c = λ s here.
    on_ok c.lay.result
    (λ stands. subst (λ t. Surveys (c.args.line + 1) t c.lay.new.self)
    (λ i. done_line c.args.line s c.args.label c.args.operation (sym (c.requires.done c.if-kept.true) i) (sym c.if-kept.true i)) stands)
    (c.lay.ensures.leads s here)

pub returns-then-done-clause-leads : goal.returns-then-done-clause-leads
returns-then-done-clause-leads c = λ s here.
    on_ok c.lay_unlabelled.result
    (λ stands. subst (λ t. Surveys (c.args.line + 1) t c.lay_unlabelled.new.self)
    (λ i. done_line c.args.line s c.args.label c.args.operation (sym c.if-done.true i) (sym c.if-kept.false i)) stands)
    (c.lay_unlabelled.ensures.leads (label_lost s c.args.label c.args.operation) (c.in_ok-lose.ensures.leads c.args.line s here))

pub returns-else-done-clause-leads : goal.returns-else-done-clause-leads
returns-else-done-clause-leads c = λ s here.
    subst (λ t. Surveys (c.args.line + 1) t c.pass_over.new.self)
    (λ i. done_line c.args.line s c.args.label c.args.operation (sym c.if-done.false i) (sym c.if-kept.false i))
    (c.pass_over.ensures.leads c.args.line (label_lost s c.args.label c.args.operation)
    (c.in_ok-lose.ensures.leads c.args.line s here))
