use Rattle.std.proofs.Common.{◌≡◌, ◌∙◌, ◌++◌, sym}
use Rattle.std.proofs.lemmas.Result.{err_from_is_err_and}
use Rattle.words.proofs.Texts.{append-then, beginning-after, beginning-longer}
use Rattle.differ.specs.Causes.{last_writer}
use Rattle.differ.specs.DifferText.{end_by, link_part, named, next_of}
use Rattle.differ.proofs.why.write_link.Goals as goal

pub returns-in_err-write_lines-clause-written : goal.returns-in_err-write_lines-clause-written
unfolding link_part
returns-in_err-write_lines-clause-written g c = λ told.
    let p = err_from_is_err_and c.from_residual.result c.from_residual.ensures.1 in
    let one = named c.args.one.now in
    let other = named c.args.other.now in
    let f = c.args.at in
    let a = last_writer one.scenario f.cell f.here in
    let b = last_writer other.scenario f.cell f.there in
    rw p.1 (beginning-longer _ _ _ (end_by a b (next_of one other f.cell a b)) (rw (
      c.as_slice.ensures.value,
      c.why_line-head.ensures,
      c.last_writer-here.ensures.found,
      c.last_writer-there.ensures.found,
      c.last_writer-here.ensures.scenario,
      c.last_writer-there.ensures.scenario,
    ) at (c.in_err-write_lines.ensures.written told)))

pub returns-in_err-write_end-clause-written : goal.returns-in_err-write_end-clause-written
unfolding link_part
returns-in_err-write_end-clause-written g c = λ told.
    let p = err_from_is_err_and c.from_residual-in_err-write_end.result c.from_residual-in_err-write_end.ensures.1 in
    let lines = c.in_ok-write_lines.ensures in
    rw p.1 (beginning-after _ _ _ _ _ (rw (
      c.as_slice.ensures.value,
      c.why_line-head.ensures,
      c.last_writer-here.ensures.found,
      c.last_writer-there.ensures.found,
      c.last_writer-here.ensures.scenario,
      c.last_writer-there.ensures.scenario,
    ) at (lines.written told)) (rw (
      c.next_of-next.ensures.next,
      lines.one.names,
      lines.other.names,
      lines.one.scenario,
      lines.other.scenario,
      c.last_writer-here.ensures.found,
      c.last_writer-there.ensures.found,
      c.last_writer-here.ensures.scenario,
      c.last_writer-there.ensures.scenario,
    ) at (c.in_err-write_end.ensures.written told)))

pub returns-clause-written : goal.returns-clause-written
unfolding link_part
returns-clause-written g c = λ told.
    let lines = c.in_ok-write_lines.ensures in
    append-then _ _ _ _ _ (rw (
      c.as_slice.ensures.value,
      c.why_line-head.ensures,
      c.last_writer-here.ensures.found,
      c.last_writer-there.ensures.found,
      c.last_writer-here.ensures.scenario,
      c.last_writer-there.ensures.scenario,
    ) at (lines.written told)) (rw (
      c.next_of-next.ensures.next,
      lines.one.names,
      lines.other.names,
      lines.one.scenario,
      lines.other.scenario,
      c.last_writer-here.ensures.found,
      c.last_writer-there.ensures.found,
      c.last_writer-here.ensures.scenario,
      c.last_writer-there.ensures.scenario,
    ) at (c.in_ok-write_end.ensures.written told))
