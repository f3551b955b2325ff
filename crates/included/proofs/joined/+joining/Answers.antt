use Rattle.std.proofs.Common.{◌∙◌}
use Rattle.std.proofs.lemmas.Result.{err_from_is_err_and}
use Rattle.agc_text.specs.Lines.{lines}
use Rattle.included.specs.Included.{feed_in, include, join_lines}
use Rattle.included.proofs.Steps.{joins_unjoined, takes_joined, takes_unjoined}
use Rattle.included.proofs.joined.+joining.Goals as goal

pub join_lines-returns-in_err-take_line : goal.join_lines-returns-in_err-take_line
join_lines-returns-in_err-take_line g t c = λ told.
    let p = err_from_is_err_and c.from_residual.result c.from_residual.ensures.1 in
    let within = include (g.D.Texts.texts c.args.files.now) c.args.level.levels c.args.level.around.now in
    rw (p.1, p.2) (joins_unjoined within c.args.level.is_ended c.args.level.file c.loop-line.number c.loop-line.joined
    c.take_line.new.joined (join_lines within c.args.level.is_ended c.args.level.file 0 c.args.joined.now (lines c.args.text.now))
    (lines c.loop-line.rest.now) (lines c.in-Some.following.now) c.in-Some.line.now c.before_return.result.now
    (feed_in c.has_feed-has_feed.result) _ c.in-Some.ensures.lines (c.loop-line.invariant.left told) c.before_return.ensures
    c.has_feed-has_feed.ensures (c.in_err-take_line.ensures told))

pub take_line-returns-in_err-text : goal.take_line-returns-in_err-text
take_line-returns-in_err-text g t c = λ told.
    let p = err_from_is_err_and c.from_residual-in_err-text.result c.from_residual-in_err-text.ensures.1 in
    rw (p.1, p.2) (takes_unjoined (g.D.Texts.texts c.args.files.now) c.args.level.levels c.args.level.around.now c.args.place
    c.args.joined.now c.begin.new.self c.args.line.now (feed_in c.args.has_feed) c.in-Some.name.now _ c.in-Some.ensures
    (c.in_err-text.ensures.text told))

pub take_line-returns : goal.take_line-returns
take_line-returns g t c = λ told.
    takes_joined (g.D.Texts.texts c.args.files.now) c.args.level.levels c.next_file-file.result c.args.level.around.now
    c.as_slice.result.now c.args.place c.args.joined.now c.begin.new.self c.join_lines.new.joined c.args.line.now
    (feed_in c.args.has_feed) c.in-Some.name.now c.in_ok-text.text.items c.join_lines.result c.in_ok-text.ensures.some c.in-Some.ensures
    (c.in_ok-text.ensures.text told) (c.as_slice.ensures.value ∙ c.in_ok-around.ensures) c.next_file-file.ensures
    (rw c.as_slice-2.ensures.value at (c.join_lines.ensures told))
