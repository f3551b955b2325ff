use Rattle.std.proofs.Common.{◌∙◌}
use Rattle.yayul.proofs.LineAgrees.{held_agrees}
use Rattle.yayul.proofs.survey.Survey.said_on.Goals as goal

pub returns-clause-conditions : goal.returns-clause-conditions
returns-clause-conditions c = λ line s here.
    c.conditions.ensures line ∙ held_agrees line s.layout c.args.self.now.layout c.args.self.now.placing
    c.statement-label.result.label c.mended-operation.result here.agrees
