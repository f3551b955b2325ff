use Rattle.std.proofs.Common.{refl, ap, ◌∙◌, map}
use Rattle.yayul.specs.Later.{Table, settled}
use Rattle.yayul.specs.Inside.Answers.{layout_of}
use Rattle.yayul.specs.Inside.Representation.{promise_of}
use Rattle.yayul.proofs.SurveyByLine.{settled_stands}
use Rattle.yayul.proofs.survey.Survey.settle.Goals as goal

pub returns-in-Ok-clause-settled : goal.returns-in-Ok-clause-settled
returns-in-Ok-clause-settled c = λ line s here.
    settled_stands line s c.args.self.now _ here
    (ap (λ (table : Table). record (layout_of c.args.self.now.layout) { symbols = table })
    (c.in-Ok.ensures ∙ ap (λ items. settled (map promise_of items) c.args.self.now.layout.symbols) c.deref.ensures.value))
    refl refl refl refl
