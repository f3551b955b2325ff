use Rattle.std.proofs.Common.{refl, ap}
use Rattle.yayul.specs.Inside.Answers.{layout_of}
use Rattle.yayul.proofs.SurveyByLine.{over_stands}
use Rattle.yayul.proofs.survey.Survey.pass_over.Goals as goal

pub returns-clause-leads : goal.returns-clause-leads
returns-clause-leads c = λ line s here.
    over_stands line s c.args.self.now _ here refl refl c.args.operation.now
    (ap (λ extracode. record (layout_of c.args.self.now.layout) { extracode = extracode }) c.extracode_after-self.ensures) refl refl
