use Rattle.std.proofs.Common.{◌∙◌, ap, not, refl}
use Rattle.notes.specs.Counted.{left_after, taken, told_of}
use Rattle.notes.proofs.Booked.{takes_reach, tells_reach}
use Rattle.notes.proofs.Counting.{of_kinds}
use Rattle.notes.proofs.notebook.Notebook.take_reach.Goals as goal

pub returns-clause-takes : goal.returns-clause-takes
returns-clause-takes c =
    let number = c.number_of-number.result in
    let is = c.names_erasable_in-is_erasable.ensures in
    takes_reach c.args.processor.now.scenario c.args.machine.now c.args.step.now _ _ c.self.view_is c.requires.step c.account_of.result
    number c.account_of.ensures c.number_of-number.ensures.number _ c.number_of-number.ensures.known c.requires.plain c.requires.reaches
    (of_kinds _ refl refl refl refl refl (c.take-other_banks.ensures.left ∙ ap (λ b. left_after c.self.inside.other_banks number b) is)
    refl refl refl refl (c.take-fixed_banks.ensures.left ∙ ap (λ b. left_after c.self.inside.fixed_banks number (not b)) is))
    refl refl refl

pub returns-clause-told : goal.returns-clause-told
returns-clause-told c =
    let number = c.number_of-number.result in
    let is = c.names_erasable_in-is_erasable.ensures in
    tells_reach c.args.processor.now.scenario c.args.machine.now c.args.step.now _ _ c.self.view_is c.requires.step c.account_of.result
    number c.account_of.ensures c.number_of-number.ensures.number (told_of _) c.requires.plain c.requires.reaches
    (of_kinds _ refl refl refl refl refl (c.take-other_banks.ensures.out ∙ ap (λ b. taken c.self.inside.other_banks number b) is)
    refl refl refl refl (c.take-fixed_banks.ensures.out ∙ ap (λ b. taken c.self.inside.fixed_banks number (not b)) is))
