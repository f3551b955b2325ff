use Rattle.std.proofs.Common.{◌∙◌, arith}
use Rattle.std.proofs.lemmas.Result.{err_from_is_err_and}
use Rattle.audit.proofs.PartTexts.{writes_more}
use Rattle.align.specs.Alignments.{renaming}
use Rattle.align.specs.Pairings.{pairing}
use Rattle.align.specs.RenamedLines.{renamed_line, slots}
use Rattle.align.proofs.Renames.{renamed_begin, renamed_end}
use Rattle.align.proofs.renamed_lines.write_renamed.Goals as goal

pub returns-in_err-write_all-clause-written : goal.returns-in_err-write_all-clause-written
returns-in_err-write_all-clause-written g c = λ told.
    let p = err_from_is_err_and c.from_residual.result c.from_residual.ensures.1 in
    rw p.1 (renamed_begin (renaming c.args.r.names.now c.args.r.back.now c.args.r.operands.now)
    (pairing c.args.p.own.now c.args.p.old.now c.args.p.new.now c.args.p.to_old.now c.args.p.to_new.now) c.loop-entry.entry slots _ _ _
    c.loop-entry-test.true
    (c.loop-entry.invariant.written told) (rw (c.as_slice.ensures.value, c.renamed_line.ensures) at
    (c.in_err-write_all.ensures.written told)))

pub loop-entry-preserved : goal.loop-entry-preserved
loop-entry-preserved g c = record {
  written = λ told.
      writes_more (renamed_line (renaming c.args.r.names.now c.args.r.back.now c.args.r.operands.now)
      (pairing c.args.p.own.now c.args.p.old.now c.args.p.new.now c.args.p.to_old.now c.args.p.to_new.now)) c.loop-entry.entry _ _ _
      (c.loop-entry.invariant.written told)
      (rw (c.as_slice.ensures.value, c.renamed_line.ensures) at (c.in_ok-write_all.ensures.written told));
  failures = c.in_ok-write_all.ensures.failures ∙ c.loop-entry.invariant.failures;
}

pub returns-clause-written : goal.returns-clause-written
returns-clause-written g c = λ told.
    renamed_end (renaming c.args.r.names.now c.args.r.back.now c.args.r.operands.now)
    (pairing c.args.p.own.now c.args.p.old.now c.args.p.new.now c.args.p.to_old.now c.args.p.to_new.now) c.loop-entry.entry slots _ _
    (omega arith) (c.loop-entry.invariant.written told)
