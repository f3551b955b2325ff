use Rattle.std.proofs.Common.{◌≡◌, ◌∙◌, sym, refl}
use Rattle.notes.specs.Counted.{told_of}
use Rattle.notes.proofs.Booked.{takes_nothing, tells_nothing}
use Rattle.notes.proofs.Counting.{of_kinds}
use Rattle.notes.proofs.notebook.Notebook.take_plain.Goals as goal

pub returns-else-reaches_in-clause-takes : goal.returns-else-reaches_in-clause-takes
returns-else-reaches_in-clause-takes c =
    takes_nothing c.args.processor.now.scenario c.args.machine.now c.args.step.now _ _ c.self.view_is c.requires.step c.requires.plain
    (sym c.reaches_in.ensures ∙ c.if-reaches_in.false)

pub returns-else-reaches_in-clause-told : goal.returns-else-reaches_in-clause-told
returns-else-reaches_in-clause-told c = λ kind.
    of_kinds (λ k. told_of _ k ≡ 0) refl refl refl refl refl refl refl refl refl refl refl kind
    ∙ sym (tells_nothing c.args.processor.now.scenario c.args.machine.now c.args.step.now _ _ c.self.view_is c.requires.step
    c.requires.plain (sym c.reaches_in.ensures ∙ c.if-reaches_in.false) kind)
