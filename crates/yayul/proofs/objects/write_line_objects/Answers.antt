use Rattle.std.proofs.Common.{None, Some, drop}
use Rattle.std.specs.List.{flat_map}
use Rattle.std.proofs.lemmas.Result.{err_from_is_err_and}
use Rattle.words.proofs.Texts.{Writes-after, beginning-longer}
use Rattle.yayul.specs.ListingObjects.{line_objects, row_object, word_members}
use Rattle.yayul.specs.Inside.Representation.{shown_by_mark}
use Rattle.yayul.proofs.objects.write_line_objects.Goals as goal

pub returns-clause-written : goal.returns-clause-written
unfolding line_objects
returns-clause-written g c = λ told.
    Writes-after _ _ _ _ _ c.write_further_objects.result
    (rw (c.shown_members-members.ensures, c.first_word.ensures) at (c.in_ok-write_object.ensures.written told))
    (c.write_further_objects.ensures.written told)

pub returns-in_err-write_object-clause-written : goal.returns-in_err-write_object-clause-written
unfolding line_objects
returns-in_err-write_object-clause-written g c = λ told.
    let p = err_from_is_err_and c.from_residual.result c.from_residual.ensures.1 in
    rw p.1 (beginning-longer _ _ _ (flat_map (λ p. row_object c.args.number (word_members c.args.rope.now p.0 p.1)
    (g.M.Margin.text c.args.margin.now (Some p)) None) (drop 1 (shown_by_mark c.args.mark.now).words))
    (rw (c.shown_members-members.ensures, c.first_word.ensures) at (c.in_err-write_object.ensures.written told)))
