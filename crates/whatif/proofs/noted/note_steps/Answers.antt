use Rattle.std.proofs.Common.{◌≡◌, ◌∙◌, ◌+◌, ◌++◌, None, refl, sym, ap}
use Rattle.notes.specs.Noted.{Noted, nothing_noted}
use Rattle.whatif.specs.Here.{trials_after}
use Rattle.whatif.specs.Changes.{changes, joins, note, notes_of, span_text}
use Rattle.whatif.specs.NotedHere.{noted_here}
use Rattle.whatif.specs.Together.{told_together}
use Rattle.whatif.proofs.NotedTold.{text_parts}
use Rattle.whatif.proofs.Steps.{looked_begins}
use Rattle.whatif.proofs.noted.note_steps.Goals as goal

pub write_each-requires-clause-seen : goal.write_each-requires-clause-seen
write_each-requires-clause-seen c =
    looked_begins nothing_noted (note c.args.named.now) c.run_without.new.processor.scenario _ _ _ c.after-trunk.ensures.seen
    (c.after-trunk.ensures.from ∙ sym c.after-trunk.ensures.done)

pub returns-clause-text : goal.returns-clause-text
unfolding noted_here
returns-clause-text c =
    let scenario = c.args.processor.now.scenario in
    let without = c.in_ok-without.without in
    let notes : without.seen.notes ≡ notes_of c.args.named.now c.args.since scenario c.args.steps =
    ap (λ (a : Noted). a.notes) (rw (c.in-Ok.ensures, c.after-trunk.ensures.from) at c.in_ok-without.ensures.seen) in
    let trials = trials_after scenario c.args.input c.args.first (c.args.more + 1) in
    let told = rw (c.in_ok-without.ensures.scenario, c.in-Ok.ensures, c.after-trunk.ensures.from) at (c.in_ok-made.ensures.written refl) in
    told
    ∙ ap (λ x. x ++ told_together joins span_text None (changes c.args.named.now without.seen.notes c.args.since scenario c.args.steps trials))
    (rw c.notes.ensures at c.in_ok-text.ensures)
    ∙ sym (text_parts c.args.named.now c.args.since scenario trials c.args.steps without.seen.notes notes)
