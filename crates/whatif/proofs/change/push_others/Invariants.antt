use Rattle.std.proofs.Common.{◌≡◌, ◌++◌, drop}
use Rattle.whatif.specs.Changes.{others_text}
use Rattle.whatif.proofs.change.push_others.Given as goal

abbrev pub invariant-loop-note : goal.invariant-loop-note
invariant-loop-note l =
    l.text.items ++ others_text l.word l.notes (drop l.note-index l.others) ≡ l.fn.text.items ++ others_text l.word l.notes l.others
