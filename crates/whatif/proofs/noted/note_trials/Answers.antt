use Rattle.std.proofs.Common.{◌≡◌, ◌∙◌, ◌++◌, None, refl, sym, ap}
use Rattle.notes.specs.Noted.{Noted}
use Rattle.whatif.specs.Changes.{changes, joins, note_trials_text, notes_of, span_text}
use Rattle.whatif.specs.Together.{told_together}
use Rattle.whatif.proofs.NotedTold.{text_parts}
use Rattle.whatif.proofs.Steps.{run_zero}
use Rattle.whatif.proofs.noted.note_trials.Goals as goal

pub run_without-requires-clause-machine : goal.run_without-requires-clause-machine
run_without-requires-clause-machine c = run_zero c.args.processor.now.scenario _ _ c.at_start-start.ensures.machine
    c.at_start-start.ensures.done

pub write_trials-requires-clause-machine : goal.write_trials-requires-clause-machine
write_trials-requires-clause-machine c = rw c.in_ok-without.ensures.scenario (run_zero c.args.processor.now.scenario _ _
    c.at_start-start.ensures.machine c.at_start-start.ensures.done)

pub returns-clause-text : goal.returns-clause-text
unfolding note_trials_text
returns-clause-text c =
    let scenario = c.args.processor.now.scenario in
    let without = c.in_ok-without.without in
    let notes : without.seen.notes ≡ notes_of c.args.named.now 0 scenario c.args.steps =
    ap (λ (a : Noted). a.notes) (rw c.at_start-start.ensures.from at c.in_ok-without.ensures.seen) in
    let told = rw (c.in_ok-without.ensures.scenario, c.at_start-start.ensures.from) at (c.in_ok-write_trials.ensures.written refl) in
    told
    ∙ ap (λ x. x ++ told_together joins span_text None (changes c.args.named.now without.seen.notes 0 scenario c.args.steps
    c.args.trials.now)) (rw c.notes.ensures at c.in_ok-text.ensures)
    ∙ sym (text_parts c.args.named.now 0 scenario c.args.trials.now c.args.steps without.seen.notes notes)
