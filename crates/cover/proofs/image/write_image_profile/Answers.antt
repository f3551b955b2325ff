use Rattle.std.proofs.lemmas.Result.{err_from_is_err_and}
use Rattle.words.proofs.Texts.{Writes-after, beginning-longer}
use Rattle.cover.specs.CoverText.{image_rows, rest_rows}
use Rattle.cover.specs.Tallies.{figures_at}
use Rattle.cover.proofs.image.write_image_profile.Goals as goal

pub returns-in_err-write_words-clause-written : goal.returns-in_err-write_words-clause-written
returns-in_err-write_words-clause-written g c = λ told.
    let p = err_from_is_err_and c.from_residual.result c.from_residual.ensures.1 in
    rw p.1 (beginning-longer _ _ (image_rows c.args.notation c.args.names.now (figures_at c.args.tally.now) c.args.rope.now)
    (rest_rows c.args.notation c.args.names.now (figures_at c.args.tally.now) c.args.rope.now c.args.total)
    (c.in_err-write_words.ensures.written told))

pub returns-clause-written : goal.returns-clause-written
returns-clause-written g c = λ told.
    Writes-after _ _ _ (image_rows c.args.notation c.args.names.now (figures_at c.args.tally.now) c.args.rope.now)
    (rest_rows c.args.notation c.args.names.now (figures_at c.args.tally.now) c.args.rope.now c.args.total) c.write_rest.result
    (c.in_ok-write_words.ensures.written told) (c.write_rest.ensures.written told)
