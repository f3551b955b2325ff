use Rattle.std.proofs.Common.{inl, inr, refl, subst, sym}
use Rattle.notes.specs.Counted.{Counted}
use Rattle.workshop.proofs.NotesWritten.{noted_by, tells_by, tells_no_code, tells_no_feed}
use Rattle.workshop.proofs.noting.run_with_notes.Goals as goal

pub returns-in_err-code-clause-progress : goal.returns-in_err-code-clause-progress
returns-in_err-code-clause-progress g c = tells_no_code c.args.origin c.args.steps _ _ _ _ _ _ _ c.in_err-code.was c.read_named.ensures refl

pub returns-in_err-feed-clause-progress : goal.returns-in_err-feed-clause-progress
returns-in_err-feed-clause-progress g c =
    tells_no_feed c.args.origin c.args.steps _ _ _ _ c.in_ok-code.code _ _ _ _ c.in_ok-code.was c.in_err-feed.was c.read_named.ensures
    c.read_feed.ensures refl

pub returns-in_default-clause-runs : goal.returns-in_default-clause-runs
returns-in_default-clause-runs g c =
    noted_by c.args.notation c.args.origin c.args.steps _ _ c.in_ok-code.code c.in_ok-feed.feed _ _ _ c.in_ok-code.was c.in_ok-feed.was
    c.read_named.ensures c.read_feed.ensures (inl (refl, refl))

pub returns-in_default-clause-progress : goal.returns-in_default-clause-progress
returns-in_default-clause-progress g c =
    tells_by c.args.origin c.args.steps _ _ _ _ c.in_ok-code.code c.in_ok-feed.feed _ _ _ c.in_ok-code.was c.in_ok-feed.was
    c.read_named.ensures c.read_feed.ensures refl

pub returns-in_default-new-clause-runs : goal.returns-in_default-new-clause-runs
returns-in_default-new-clause-runs g c =
    noted_by c.args.notation c.args.origin c.args.steps _ _ c.in_ok-code.code c.in_ok-feed.feed _ _ _ c.in_ok-code.was c.in_ok-feed.was
    c.read_named.ensures c.read_feed.ensures (inl (refl, refl))

pub returns-in_default-new-clause-progress : goal.returns-in_default-new-clause-progress
returns-in_default-new-clause-progress g c =
    tells_by c.args.origin c.args.steps _ _ _ _ c.in_ok-code.code c.in_ok-feed.feed _ _ _ c.in_ok-code.was c.in_ok-feed.was
    c.read_named.ensures c.read_feed.ensures refl

pub returns-clause-runs : goal.returns-clause-runs
returns-clause-runs g c =
    noted_by c.args.notation c.args.origin c.args.steps _ _ c.in_ok-code.code c.in_ok-feed.feed _ _ _ c.in_ok-code.was c.in_ok-feed.was
    c.read_named.ensures c.read_feed.ensures
    (inr (rw (
      c.new-processor.ensures.value,
      c.in-Ok.ensures,
      (c.in-Ok-new.ensures (record { rope = c.in_ok-code.code.rope; inputs = c.in_ok-feed.feed })).same,
    ) at c.run_then_note.ensures.ends))

pub returns-clause-progress : goal.returns-clause-progress
returns-clause-progress g c =
    tells_by c.args.origin c.args.steps _ _ _ _ c.in_ok-code.code c.in_ok-feed.feed _ _ _ c.in_ok-code.was c.in_ok-feed.was
    c.read_named.ensures c.read_feed.ensures
    (rw c.new-processor.ensures.value at c.run_then_note.ensures.progress)

pub run_then_note-requires-clause-none : goal.run_then_note-requires-clause-none
run_then_note-requires-clause-none g c = λ scenario.
    let counted = c.in-Ok-new.ensures scenario in
    subst (λ named. Counted named scenario 0 c.in-Ok-new.notebook) (sym counted.same) counted
