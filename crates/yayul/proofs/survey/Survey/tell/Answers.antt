use Rattle.std.proofs.Common.{◌∙◌, ◌∷◌, ◌++◌, [], append-nil, ap, refl, sym}
use Rattle.yayul.specs.Layout.{standing, text_faults}
use Rattle.yayul.specs.Survey.{doubt, taken_by, told_of}
use Rattle.yayul.specs.Inside.Surveys.{kinds_of}
use Rattle.yayul.proofs.LeastTold.{nothing_told}
use Rattle.yayul.proofs.NoneStands.{none_stands}
use Rattle.yayul.proofs.SurveyByLine.{doubt_is, formless_on, label_on, line_told, operation_said, told_on, vain_is}
use Rattle.yayul.proofs.survey.Survey.tell.Goals as goal

pub returns-then-are_none : goal.returns-then-are_none
returns-then-are_none c = λ s w last here whole.
    sym (ap (λ found. c.args.told.now.items ++ found)
    (sym (line_told c.args.line last s w c.args.self.now c.args.whole.now c.args.text.now.text c.args.said.now.label
    c.args.said.now.operation c.args.said.now.formless
    (record {
      of_text = c.text_conditions.result;
      of_form = c.when.result;
      of_layout = c.args.said.now.conditions;
      of_promise = c.vain_condition.result;
      of_words = c.word_conditions.result;
    }) (doubt w s c.args.text.now.text c.args.said.now.operation) (taken_by s.layout c.args.said.now.operation)
    (label_on c.args.line s c.args.self.now c.args.text.now.text c.args.said.now.label here c.requires.label)
    (operation_said c.args.line s c.args.self.now c.args.text.now.text c.args.said.now.operation here c.requires.operation)
    (formless_on c.args.line s c.args.self.now c.args.text.now.text c.args.said.now.formless here c.requires.formless) here whole
    refl (c.text_conditions.ensures ∙ ap (λ l. text_faults l c.args.line c.args.text.now.text) c.requires.language)
    (ap (λ kind. standing (kind ∷ [])) c.when.ensures) (c.requires.conditions c.args.line s here)
    (c.vain_condition.ensures ∙ vain_is c.args.line last s w c.args.self.now c.args.whole.now c.args.said.now.label
    c.args.said.now.operation here whole)
    c.word_conditions.ensures refl)
    ∙ ap (told_of c.args.self.now.layout.language (doubt w s c.args.text.now.text c.args.said.now.operation) c.args.line
    c.args.text.now.text (taken_by s.layout c.args.said.now.operation)) (none_stands (record {
      of_text = c.text_conditions.result;
      of_form = c.when.result;
      of_layout = c.args.said.now.conditions;
      of_promise = c.vain_condition.result;
      of_words = c.word_conditions.result;
    }) (sym c.are_none.ensures ∙ c.if-are_none.true))
    ∙ nothing_told c.args.self.now.layout.language (doubt w s c.args.text.now.text c.args.said.now.operation) c.args.line
    c.args.text.now.text (taken_by s.layout c.args.said.now.operation))
    ∙ append-nil c.args.told.now.items)

pub returns : goal.returns
returns c = λ s w last here whole.
    told_on c.tell.result c.args.told.now.items c.tell.new.told.items _ _
    (ap (λ l. told_of l c.doubt.result c.args.line c.args.text.now.text c.taken_by.result (kinds_of (record {
      of_text = c.text_conditions.result;
      of_form = c.when.result;
      of_layout = c.args.said.now.conditions;
      of_promise = c.vain_condition.result;
      of_words = c.word_conditions.result;
    }))) c.requires.language
    ∙ line_told c.args.line last s w c.args.self.now c.args.whole.now c.args.text.now.text c.args.said.now.label
    c.args.said.now.operation c.args.said.now.formless
    (record {
      of_text = c.text_conditions.result;
      of_form = c.when.result;
      of_layout = c.args.said.now.conditions;
      of_promise = c.vain_condition.result;
      of_words = c.word_conditions.result;
    }) c.doubt.result c.taken_by.result
    (label_on c.args.line s c.args.self.now c.args.text.now.text c.args.said.now.label here c.requires.label)
    (operation_said c.args.line s c.args.self.now c.args.text.now.text c.args.said.now.operation here c.requires.operation)
    (formless_on c.args.line s c.args.self.now c.args.text.now.text c.args.said.now.formless here c.requires.formless) here whole
    (c.doubt.ensures ∙ doubt_is c.args.line last s w c.args.self.now c.args.whole.now c.args.text.now.text c.args.said.now.operation here
    whole)
    (c.text_conditions.ensures ∙ ap (λ l. text_faults l c.args.line c.args.text.now.text) c.requires.language)
    (ap (λ kind. standing (kind ∷ [])) c.when.ensures) (c.requires.conditions c.args.line s here)
    (c.vain_condition.ensures ∙ vain_is c.args.line last s w c.args.self.now c.args.whole.now c.args.said.now.label
    c.args.said.now.operation here whole)
    c.word_conditions.ensures (c.taken_by.ensures c.args.line s here))
    c.tell.ensures
