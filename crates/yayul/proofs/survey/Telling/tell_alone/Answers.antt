use Rattle.std.proofs.Common.{◌∙◌, ◌∷◌, ◌++◌, [], List, ap, append-nil, cond, sym}
use Rattle.yayul.specs.declared.finding.Finding.{Finding}
use Rattle.yayul.specs.Survey.{finding}
use Rattle.yayul.proofs.FaultOrder.{told_alone}
use Rattle.yayul.proofs.survey.Telling.tell_alone.Goals as goal

pub returns-then-follows : goal.returns-then-follows
returns-then-follows c =
    let self = c.args.self in
    sym (ap (λ found. c.args.told.now.items ++ found)
    (told_alone self.text.now.language self.line self.text.now.text self.taken_by self.doubt c.args.kind
    ∙ ap (λ b. cond b [] (finding self.text.now.language self.line self.text.now.text self.taken_by c.args.kind ∷ []))
    (sym c.follows.ensures ∙ c.if-follows.true))
    ∙ append-nil c.args.told.now.items)

pub returns : goal.returns
returns c =
    let self = c.args.self in
    ◌∙◌ {A = List Finding} c.in_ok-push.ensures.items
    (ap (λ (found : List Finding). c.args.told.now.items ++ found)
    (ap (λ (f : Finding). f ∷ []) c.finding.ensures
    ∙ sym (told_alone self.text.now.language self.line self.text.now.text self.taken_by self.doubt c.args.kind
    ∙ ap (λ b. cond b [] (finding self.text.now.language self.line self.text.now.text self.taken_by c.args.kind ∷ []))
    (sym c.follows.ensures ∙ c.if-follows.false))))
