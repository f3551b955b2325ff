use Rattle.std.proofs.Common.{◌∙◌, ◌++◌, ap, append_assoc, append-nil, sym, true, false}
use Rattle.yayul.proofs.FaultOrder.{none_past, told_part, told_parts}
use Rattle.yayul.proofs.survey.Telling.tell_all.Goals as goal

pub returns-in_ok-tell_each : goal.returns-in_ok-tell_each
returns-in_ok-tell_each c =
    let self = c.args.self in
    let numbers = c.args.numbers.now in
    let within = told_part self.text.now.language self.line self.text.now.text self.taken_by self.doubt numbers false in
    let past = told_part self.text.now.language self.line self.text.now.text self.taken_by self.doubt numbers true in
    c.in_ok-tell_each.ensures.told ∙ ap (λ items. items ++ past) c.in_ok-past_end.ensures.told
    ∙ append_assoc c.args.told.now.items within past
    ∙ ap (λ items. c.args.told.now.items ++ items)
    (told_parts self.text.now.language self.line self.text.now.text self.taken_by self.doubt numbers)

pub returns-else-past_end : goal.returns-else-past_end
returns-else-past_end c =
    let self = c.args.self in
    let numbers = c.args.numbers.now in
    let within = told_part self.text.now.language self.line self.text.now.text self.taken_by self.doubt numbers false in
    c.in_ok-past_end.ensures.told
    ∙ ap (λ items. c.args.told.now.items ++ items)
    (sym (ap (λ items. within ++ items) (none_past self.text.now.language self.line self.text.now.text self.taken_by self.doubt numbers
    (c.in_ok-past_end.ensures.others c.if-past_end.false)) ∙ append-nil within)
    ∙ told_parts self.text.now.language self.line self.text.now.text self.taken_by self.doubt numbers)
