use Rattle.std.proofs.Common.{◌≡◌, ◌∙◌, None, Some, ap, sym, arith, find, nat_le, slice_get, option_map}
use Rattle.agc_text.specs.Fields.{before_comment, fields, runs_after}
use Rattle.agc_text.specs.Views.{end_of, piece}
use Rattle.agc_text.proofs.Runs.{runs_is}
use Rattle.diagnostics.proofs.Walked.{dropped_next, found_next, none_later, walked}
use Rattle.diagnostics.proofs.feeds.field_after.Goals as goal

pub loop-init : goal.loop-init
loop-init c = runs_is (before_comment c.args.text.now)

pub returns-in_default : goal.returns-in_default
returns-in_default c =
    let text = c.args.text.now in
    let none : slice_get (fields text) c.loop.counter ≡ None =
    sym (found_next text c.loop.from c.loop.counter c.loop.invariant) ∙ sym c.next_field.ensures.found
    ∙ ap (option_map piece) c.in_default.is in
    sym (none_later (fields text) c.loop.counter c.args.place none (omega arith))

pub loop-preserved : goal.loop-preserved
loop-preserved c =
    let text = c.args.text.now in
    let field = c.in-Some.field in
    let found : Some (piece field) ≡ find (λ g. nat_le c.loop.from g.start) (fields text) = sym (ap (option_map piece) c.in-Some.is)
    ∙ c.next_field.ensures.found in
    dropped_next (fields text) (runs_after (before_comment text) (end_of field)) (piece field) c.loop.counter
    (c.loop.invariant ∙ walked (before_comment text) c.loop.from field found)

pub returns : goal.returns
returns c =
    let same : c.loop.counter ≡ c.args.place = omega arith in
    c.next_field-2.ensures.found ∙ found_next c.args.text.now c.loop.from c.loop.counter c.loop.invariant
    ∙ ap (slice_get (fields c.args.text.now)) same
