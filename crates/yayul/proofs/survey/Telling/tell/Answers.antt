use Rattle.std.proofs.Common.{◌∙◌, ◌++◌, ap, sym}
use Rattle.yayul.specs.Inside.Surveys.{kinds_of}
use Rattle.yayul.proofs.FaultOrder.{told_numbered, told_same}
use Rattle.yayul.proofs.SurveyByLine.{on_ok}
use Rattle.yayul.proofs.survey.Telling.tell.Goals as goal

pub returns-in-Some : goal.returns-in-Some
returns-in-Some c =
    let self = c.args.self in
    on_ok c.tell_alone.result
    (λ told. told ∙ ap (λ found. c.args.told.now.items ++ found)
    (told_same self.text.now.language self.line self.text.now.text self.taken_by self.doubt c.in-Some.kind (kinds_of c.args.faults.now)
    (sym c.in-Some.ensures ∙ c.as_slice-numbers.ensures.value ∙ c.numbers-numbers.ensures)))
    c.tell_alone.ensures

pub returns-in-None : goal.returns-in-None
returns-in-None c =
    let self = c.args.self in
    on_ok c.tell_all.result
    (λ told. told ∙ ap (λ found. c.args.told.now.items ++ found)
    (told_numbered self.text.now.language self.line self.text.now.text self.taken_by self.doubt (kinds_of c.args.faults.now)
    c.as_slice-numbers.result.now (c.as_slice-numbers.ensures.value ∙ c.numbers-numbers.ensures)))
    c.tell_all.ensures
