use Rattle.std.proofs.Common.{◌∙◌, ap, refl}
use Rattle.notes.specs.Notes.{reaches_other}
use Rattle.notes.specs.Counted.{Book}
use Rattle.notes.proofs.Plain.{plain_noted}
use Rattle.notes.proofs.notebook.Notebook.note_plain.Goals as goal

pub returns : goal.returns
returns c =
    let reaches = c.reaches_other-reaches.ensures
    ∙ ap (λ (book : Book). reaches_other book.named c.args.machine.now c.args.fetched.now) c.self.view_is in
    plain_noted c.args.processor.now.scenario c.args.machine.now c.args.fetched.now _ c.reaches_other-reaches.result _ c.args.self.now _
    c.requires.step c.requires.plain refl reaches refl c.count_plain.ensures
