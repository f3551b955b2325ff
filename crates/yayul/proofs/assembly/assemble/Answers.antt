use Rattle.std.proofs.lemmas.Result.{err_from_is_err_and}
use Rattle.agc_text.specs.Lines.{lines}
use Rattle.yayul.specs.Layout.{start, layout_after}
use Rattle.yayul.specs.Program.{program, finished}
use Rattle.yayul.proofs.WholeSource.{program_ok, program_err, answers_same}
use Rattle.yayul.proofs.assembly.assemble.Goals as goal

pub returns : goal.returns
returns c =
    answers_same (program c.args.language c.args.source.now)
    (finished (layout_after 1 (start c.args.language) (lines c.args.source.now))
    (record { language = c.args.language; text = c.args.source.now })) c.finish.result
    (program_ok c.args.language c.args.source.now c.in_ok-layout.ensures.lays_out.0) c.finish.ensures

pub returns-in_err-layout : goal.returns-in_err-layout
returns-in_err-layout c =
    let p = err_from_is_err_and c.from_residual.result c.from_residual.ensures.1 in
    rw (p.1, p.2) (program_err c.args.language c.args.source.now c.in_err-layout.field-0.0 c.in_err-layout.ensures.lays_out)
