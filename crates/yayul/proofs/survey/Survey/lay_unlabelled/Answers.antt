use Rattle.std.proofs.Common.{ap, sym, ◌∙◌}
use Rattle.yayul.specs.Language.{Missing}
use Rattle.yayul.specs.Survey.{some_stands}
use Rattle.yayul.proofs.FaultOrder.{none-stand}
use Rattle.yayul.proofs.LineAgrees.{held_agrees}
use Rattle.yayul.proofs.SurveyByLine.{laid_none}
use Rattle.yayul.proofs.survey.Survey.lay_unlabelled.Goals as goal

pub lay-requires : goal.lay-requires
lay-requires c = λ line s here.
    none-stand _ (sym (c.is_any.ensures ∙ ap some_stands (c.conditions.ensures line
    ∙ held_agrees line s.layout c.args.self.now.layout c.args.self.now.placing Missing c.args.operation here.agrees)) ∙ c.if-is_any.false)

pub returns-then-is_any-clause-leads : goal.returns-then-is_any-clause-leads
returns-then-is_any-clause-leads c = λ s here.
    laid_none c.args.line s c.args.self.now Missing c.args.operation
    (sym (c.is_any.ensures ∙ ap some_stands (c.conditions.ensures c.args.line
    ∙ held_agrees c.args.line s.layout c.args.self.now.layout c.args.self.now.placing Missing c.args.operation here.agrees))
    ∙ c.if-is_any.true) here
