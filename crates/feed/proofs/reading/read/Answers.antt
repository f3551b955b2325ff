use Rattle.std.proofs.Common.{◌≤◌, List, length, sym, ap, ◌∙◌}
use Rattle.std.proofs.lemmas.Result.{err_from_is_err_and}
use Rattle.feed.specs.Feed.{most_bytes}
use Rattle.feed.specs.Merged.{merged}
use Rattle.feed.specs.declared.entry.Plain.{Plain}
use Rattle.feed.proofs.Whole.{reads_too_many, reads_inputs, reads_fault}
use Rattle.feed.proofs.reading.read.Goals as goal

pub returns-in-Err-TooLong-clause-bytes : goal.returns-in-Err-TooLong-clause-bytes
returns-in-Err-TooLong-clause-bytes g c = λ told. reads_too_many _ _ (rw c.in-Err-TooLong.field-0-is at c.in-Err-TooLong.ensures.fault told)

pub returns-clause-bytes : goal.returns-clause-bytes
returns-clause-bytes g c = λ told.
    let within : length c.deref.result.now ≤ most_bytes = rw c.deref.ensures.value c.in-Ok.ensures.within in
    reads_inputs _ _ c.deref.result.now c.new.result (c.in-Ok.ensures.whole told ∙ sym c.deref.ensures.value) (c.in-Ok.ensures.end told)
    within
    c.in_ok-gathered.ensures.faultless
    (c.new.ensures ∙ ap (λ (l : List Plain). merged l c.in_ok-gathered.gathered.sources.items) c.in_ok-gathered.ensures.plain
    ∙ ap (merged _) c.in_ok-gathered.ensures.series)

pub returns-in_err-gathered-clause-bytes : goal.returns-in_err-gathered-clause-bytes
returns-in_err-gathered-clause-bytes g c = λ told.
    let p = err_from_is_err_and c.from_residual.result c.from_residual.ensures.1 in
    let within : length c.deref.result.now ≤ most_bytes = rw c.deref.ensures.value c.in-Ok.ensures.within in
    rw (p.1, p.2) (reads_fault _ _ c.deref.result.now c.in_err-gathered.field-0.0 (c.in-Ok.ensures.whole told ∙ sym c.deref.ensures.value)
    (c.in-Ok.ensures.end told) within
    c.in_err-gathered.ensures.fault)
