use Rattle.std.proofs.Common.{◌∙◌, ◌+◌, ◌++◌, drop, sym, ap, arith, append_assoc, append-nil}
use Rattle.std.proofs.lemmas.List.{drop_all}
use Rattle.words.proofs.Writing.{from_one}
use Rattle.whatif.specs.Changes.{other_line, others_text}
use Rattle.whatif.proofs.change.push_others.Goals as goal

pub loop-note-preserved : goal.loop-note-preserved
loop-note-preserved c =
    let more = drop (c.loop-note.note-index + 1) c.args.others.now in
    let split = from_one c.args.others.now c.loop-note.note-index c.note-item.result (omega arith) c.note-item.is in
    let line = other_line c.args.word.now c.args.notes.now c.note-item.result in
    ap (λ t. t ++ others_text c.args.word.now c.args.notes.now more) c.in_ok-push_other.ensures
    ∙ append_assoc c.loop-note.text.items line (others_text c.args.word.now c.args.notes.now more)
    ∙ ap (λ l. c.loop-note.text.items ++ others_text c.args.word.now c.args.notes.now l) (sym split)
    ∙ c.loop-note.invariant

pub returns : goal.returns
returns c =
    sym (append-nil c.loop-note.text.items)
    ∙ ap (λ l. c.loop-note.text.items ++ others_text c.args.word.now c.args.notes.now l)
    (sym (drop_all c.loop-note.note-index c.args.others.now (omega arith)))
    ∙ c.loop-note.invariant
