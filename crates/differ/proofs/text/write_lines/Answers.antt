use Rattle.std.proofs.Common.{◌≡◌, ◌++◌}
use Rattle.std.proofs.lemmas.Result.{err_from_is_err_and}
use Rattle.words.proofs.Texts.{Writes-after, beginning-after, beginning-longer}
use Rattle.differ.specs.DifferText.{line_of, named}
use Rattle.differ.proofs.text.write_lines.Goals as goal

pub returns-in_err-write_all-clause-written : goal.returns-in_err-write_all-clause-written
returns-in_err-write_all-clause-written g c = λ told.
    let p = err_from_is_err_and c.from_residual.result c.from_residual.ensures.1 in
    rw p.1 (beginning-longer _ _ c.args.head.now (line_of c.args.reads (named c.args.one.now) c.args.here
    ++ line_of c.args.reads (named c.args.other.now) c.args.there) (c.in_err-write_all.ensures.written told))

pub returns-in_err-write_line-clause-written : goal.returns-in_err-write_line-clause-written
returns-in_err-write_line-clause-written g c = λ told.
    let p = err_from_is_err_and c.from_residual-in_err-write_line.result c.from_residual-in_err-write_line.ensures.1 in
    let line = line_of c.args.reads (named c.args.one.now) c.args.here in
    rw p.1
    (beginning-after _ _ _ c.args.head.now (line ++ line_of c.args.reads (named c.args.other.now) c.args.there)
    (c.in_ok-write_all.ensures.written told)
    (beginning-longer _ _ line (line_of c.args.reads (named c.args.other.now) c.args.there) (c.in_err-write_line.ensures.written told)))

pub returns-clause-written : goal.returns-clause-written
returns-clause-written g c = λ told.
    let line = line_of c.args.reads (named c.args.one.now) c.args.here in
    Writes-after _ _ _ c.args.head.now (line ++ line_of c.args.reads (named c.args.other.now) c.args.there) _
    (c.in_ok-write_all.ensures.written told)
    (Writes-after _ _ _ line (line_of c.args.reads (named c.args.other.now) c.args.there) _ (c.in_ok-write_line.ensures.written told)
    (c.write_line-2.ensures.written told))
