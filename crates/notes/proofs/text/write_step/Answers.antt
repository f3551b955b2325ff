use Rattle.std.proofs.Common.{◌++◌, ◌∙◌, refl, sym, ap}
use Rattle.words.proofs.Texts.{append-nothing}
use Rattle.notes.specs.Counted.{taken_at}
use Rattle.notes.proofs.Counting.{all_zero, nothing_told}
use Rattle.notes.proofs.text.write_step.Goals as goal

pub returns-then-eq-clause-written : goal.returns-then-eq-clause-written
returns-then-eq-clause-written g c = λ told.
    let zero = all_zero c.take-told.result (sym c.eq.ensures ∙ c.if-eq.true) in
    append-nothing (g.W.Write.written c.args.out.now) (g.W.Write.written c.args.out.now) refl
    ∙ ap (λ text. g.W.Write.written c.args.out.now ++ text)
    (sym (nothing_told _ _ _ _ (taken_at c.args.processor.now.scenario c.args.machine.now c.args.notebook.now)
    (λ kind. sym (c.take-told.ensures.told kind) ∙ zero kind)))
