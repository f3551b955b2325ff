use Rattle.std.proofs.Common.{◌++◌}
use Rattle.std.proofs.lemmas.Result.{err_from_is_err_and}
use Rattle.words.specs.Devices.{Writes}
use Rattle.words.proofs.Texts.{Writes-after, beginning-after, beginning-longer}
use Rattle.cover.specs.CoverText.{empty_rows, end_rows, erasable_rows, rest_rows}
use Rattle.cover.specs.Tallies.{figures_at}
use Rattle.cover.proofs.rest.write_rest.Goals as goal

pub returns-in_err-write_erasable-clause-written : goal.returns-in_err-write_erasable-clause-written
unfolding rest_rows
returns-in_err-write_erasable-clause-written g c = λ told.
    let p = err_from_is_err_and c.from_residual.result c.from_residual.ensures.1 in
    rw p.1 (beginning-longer _ _ (erasable_rows c.args.notation c.args.names.now (figures_at c.args.tally.now))
    (empty_rows c.args.notation c.args.names.now (figures_at c.args.tally.now) c.args.rope.now
    ++ end_rows c.args.notation (figures_at c.args.tally.now) c.args.total)
    (c.in_err-write_erasable.ensures.written told))

pub returns-in_err-write_empty-clause-written : goal.returns-in_err-write_empty-clause-written
unfolding rest_rows
returns-in_err-write_empty-clause-written g c = λ told.
    let p = err_from_is_err_and c.from_residual-in_err-write_empty.result c.from_residual-in_err-write_empty.ensures.1 in
    rw p.1 (beginning-after _ _ _ (erasable_rows c.args.notation c.args.names.now (figures_at c.args.tally.now)) _
    (c.in_ok-write_erasable.ensures.written told)
    (beginning-longer _ _ (empty_rows c.args.notation c.args.names.now (figures_at c.args.tally.now) c.args.rope.now)
    (end_rows c.args.notation (figures_at c.args.tally.now) c.args.total) (c.in_err-write_empty.ensures.written told)))

pub returns-clause-written : goal.returns-clause-written
unfolding rest_rows
returns-clause-written g c = λ told.
    let tally = figures_at c.args.tally.now in
    let first = erasable_rows c.args.notation c.args.names.now tally in
    let second = empty_rows c.args.notation c.args.names.now tally c.args.rope.now in
    let third = end_rows c.args.notation tally c.args.total in
    let old = g.W.Write.written c.args.out.now in
    let one = g.W.Write.written c.write_erasable.new.out in
    let two = g.W.Write.written c.write_empty.new.out in
    let end = g.W.Write.written c.write_end.new.out in
    let later : Writes one end (second ++ third) c.write_end.result =
    Writes-after one two end second third c.write_end.result (c.in_ok-write_empty.ensures.written told) (c.write_end.ensures.written told)
    in
    Writes-after old one end first (second ++ third) c.write_end.result (c.in_ok-write_erasable.ensures.written told) later
