use Rattle.std.proofs.Common.{◌+◌, ◌∙◌, ap, subst}
use Rattle.yayul.specs.Layout.{standing}
use Rattle.yayul.specs.Mended.{lacks_operand}
use Rattle.yayul.specs.Survey.{done_line, with_known}
use Rattle.yayul.specs.Inside.Surveys.{Surveys}
use Rattle.yayul.proofs.KeptFaultless.{kept_done, kept_faultless}
use Rattle.yayul.proofs.SurveyByLine.{label_on, operation_said, said_stands}
use Rattle.yayul.proofs.survey.Survey.pass.Goals as goal

pub pass_said-requires-clause-done : goal.pass_said-requires-clause-done
pass_said-requires-clause-done c = λ kept.
    kept_done c.args.self.now.known c.lacks_operand-alone.result c.args.said.operation (standing c.args.said.conditions) c.is_done-done.result
    c.is_kept-kept.result c.is_done-done.ensures c.is_kept-kept.ensures kept

pub pass_said-requires-clause-faultless : goal.pass_said-requires-clause-faultless
pass_said-requires-clause-faultless c = λ kept line s here.
    kept_faultless c.args.self.now.known c.lacks_operand-alone.result c.args.said.operation (standing c.args.said.conditions)
    c.is_done-done.result c.is_kept-kept.result c.is_done-done.ensures c.is_kept-kept.ensures kept _ (c.requires.conditions line s here)

pub returns-clause-leads : goal.returns-clause-leads
returns-clause-leads c = λ s here.
    said_stands c.args.line s c.args.self.now c.know.new.self c.args.text.now.text c.args.said.label c.args.said.operation
    c.lacks_operand-alone.result c.is_done-done.result
    (standing c.args.said.conditions) here
    (label_on c.args.line s c.args.self.now c.args.text.now.text c.args.said.label here c.requires.label)
    (operation_said c.args.line s c.args.self.now c.args.text.now.text c.args.said.operation here c.requires.operation)
    (c.lacks_operand-alone.ensures ∙ ap (λ l. lacks_operand l c.args.text.now.text) c.requires.language)
    (c.requires.conditions c.args.line s here) c.is_done-done.ensures
    (subst (λ t. Surveys (c.args.line + 1) t c.know.new.self)
    (λ i. with_known (done_line c.args.line s c.args.said.label c.args.said.operation c.is_done-done.result (c.is_kept-kept.ensures i))
    (c.after-known.ensures i))
    (c.know.ensures (c.args.line + 1) _ (c.in_ok-pass_said.ensures.leads s here)))
