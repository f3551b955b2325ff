use Rattle.std.proofs.Common.{◌++◌, false}
use Rattle.std.proofs.lemmas.Result.{err_from_is_err_and}
use Rattle.words.proofs.Texts.{Writes-after, beginning-after, beginning-longer}
use Rattle.origins.specs.Following.{cells_of}
use Rattle.debugger.specs.OriginsTold.{more_line, origin_lines}
use Rattle.debugger.specs.Whys.{end_text}
use Rattle.debugger.specs.declared.origins_told.OriginKind.TheVariants.{Inputs, FixedWords}
use Rattle.debugger.proofs.origins_told.write_gathered.Goals as goal

pub returns-in_err-write_all-clause-writes : goal.returns-in_err-write_all-clause-writes
returns-in_err-write_all-clause-writes g c = λ told.
    let p = err_from_is_err_and c.from_residual-in_err-write_all.result c.from_residual-in_err-write_all.ensures.1 in
    let symbols = c.args.symbols.now in
    let rope = c.args.processor.now.scenario.rope in
    let chain = c.args.chain.now in
    let inputs = origin_lines symbols rope Inputs chain.table.lines in
    let words = origin_lines symbols rope FixedWords chain.table.lines in
    let end = end_text symbols false (cells_of chain.followed) in
    let more = more_line chain.table.more in
    rw p.1
    (beginning-after _ _ _ inputs (words ++ (end ++ more)) (rw c.lines.ensures at (c.in_ok-write_origins.ensures.writes told))
    (beginning-after _ _ _ words (end ++ more) (rw c.lines-2.ensures at (c.in_ok-write_origins-2.ensures.writes told))
    (beginning-longer _ _ end more
    (rw (c.as_slice.ensures.value, c.end_text.ensures, c.followed.ensures) at (c.in_err-write_all.ensures.written told)))))

pub returns-clause-writes : goal.returns-clause-writes
returns-clause-writes g c = λ told.
    let symbols = c.args.symbols.now in
    let rope = c.args.processor.now.scenario.rope in
    let chain = c.args.chain.now in
    let inputs = origin_lines symbols rope Inputs chain.table.lines in
    let words = origin_lines symbols rope FixedWords chain.table.lines in
    let end = end_text symbols false (cells_of chain.followed) in
    let more = more_line chain.table.more in
    Writes-after _ _ _ inputs (words ++ (end ++ more)) _ (rw c.lines.ensures at (c.in_ok-write_origins.ensures.writes told))
    (Writes-after _ _ _ words (end ++ more) _ (rw c.lines-2.ensures at (c.in_ok-write_origins-2.ensures.writes told))
    (Writes-after _ _ _ end more _
    (rw (c.as_slice.ensures.value, c.end_text.ensures, c.followed.ensures) at (c.in_ok-write_all.ensures.written told))
    (rw (c.as_slice-2.ensures.value, c.more_line.ensures, c.has_more.ensures) at (c.write_all-2.ensures.written told))))
