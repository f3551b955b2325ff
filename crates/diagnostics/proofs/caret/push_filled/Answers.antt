use Rattle.std.proofs.Common.{◌∙◌, ap, drop, take}
use Rattle.std.proofs.lemmas.List.{nil_from_length}
use Rattle.yayul.specs.Readings.{parts_in}
use Rattle.diagnostics.proofs.Filling.{filled_on, filled_out}
use Rattle.diagnostics.proofs.caret.push_filled.Goals as goal

pub returns-in_default : goal.returns-in_default
returns-in_default c =
    let rest = c.loop-rest.rest.now in
    let before = c.length_before_mark.ensures.value in
    filled_out (parts_in c.args.note.now.parts) c.args.note.now.cause.other.now c.args.note.now.beside.now rest c.loop-rest.out.items _ _ _
    (c.split_at.ensures.front ∙ ap (λ n. take n rest) before)
    (c.split_at.ensures.back ∙ ap (λ n. drop n rest) before) (nil_from_length c.split_at.result.1.now c.in_default.ensures.cases)
    c.in_ok-push_plain.ensures
    ∙ c.loop-rest.invariant

pub loop-rest-preserved : goal.loop-rest-preserved
loop-rest-preserved c =
    let rest = c.loop-rest.rest.now in
    let before = c.length_before_mark.ensures.value in
    filled_on (parts_in c.args.note.now.parts) c.args.note.now.cause.other.now c.args.note.now.beside.now
    rest c.loop-rest.out.items _ _ _ _ _ _
    (c.split_at.ensures.front ∙ ap (λ n. take n rest) before)
    (c.split_at.ensures.back ∙ ap (λ n. drop n rest) before) c.in-Some.ensures.cases.0 c.in_ok-push_plain.ensures
    c.in_ok-push_filled_byte.ensures
    ∙ c.loop-rest.invariant
