use Rattle.std.proofs.Common.{◌≤◌, ◌∙◌, sym, ap, length, arith}
use Rattle.std.specs.List.{flat_map}
use Rattle.std.proofs.lemmas.List.{drop_all}
use Rattle.std.proofs.lemmas.Result.{err_from_is_err_and}
use Rattle.align.specs.CarriedNames.{carried_line, carried_lines}
use Rattle.align.specs.Alignments.{renaming}
use Rattle.align.specs.Pairings.{pairing}
use Rattle.words.proofs.Writing.{so_far_more, so_far_breaks, so_far_ends, texts_from_entry}
use Rattle.align.proofs.names.write_names.Goals as goal

pub returns-in_err-write_all-clause-written : goal.returns-in_err-write_all-clause-written
unfolding carried_lines
returns-in_err-write_all-clause-written g c = λ told.
    let p = err_from_is_err_and c.from_residual.result c.from_residual.ensures.1 in
    rw p.1 (so_far_breaks _ _ _ _ _ _ _ (c.loop-index.invariant.written told)
    (texts_from_entry (carried_line (renaming c.args.r.names.now c.args.r.back.now c.args.r.operands.now)
    (pairing c.args.p.own.now c.args.p.old.now c.args.p.new.now c.args.p.to_old.now c.args.p.to_new.now)) c.args.names.now
    c.loop-index.index (c.in-Some.entry.0.now, c.in-Some.entry.1) (sym c.in-Some.ensures.value))
    (rw (c.as_slice.ensures.value, c.carried_line-line.ensures) at (c.in_err-write_all.ensures.written told)))

pub loop-index-preserved : goal.loop-index-preserved
loop-index-preserved g c = record {
  written = λ told.
      so_far_more _ _ _ _ _ _ _ (c.loop-index.invariant.written told)
      (texts_from_entry (carried_line (renaming c.args.r.names.now c.args.r.back.now c.args.r.operands.now)
      (pairing c.args.p.own.now c.args.p.old.now c.args.p.new.now c.args.p.to_old.now c.args.p.to_new.now)) c.args.names.now
      c.loop-index.index (c.in-Some.entry.0.now, c.in-Some.entry.1) (sym c.in-Some.ensures.value))
      (rw (c.as_slice.ensures.value, c.carried_line-line.ensures) at (c.in_ok-write_all.ensures.written told));
  failures = c.in_ok-write_all.ensures.failures ∙ c.loop-index.invariant.failures;
}

pub returns-clause-written : goal.returns-clause-written
unfolding carried_lines
returns-clause-written g c = λ told.
    let past : length c.args.names.now ≤ c.loop-index.index = omega (arith, c.loop-index-test.false, c.len-index-end.ensures) in
    so_far_ends _ _ _ _ (c.loop-index.invariant.written told)
    (ap (flat_map (carried_line (renaming c.args.r.names.now c.args.r.back.now c.args.r.operands.now)
    (pairing c.args.p.own.now c.args.p.old.now c.args.p.new.now c.args.p.to_old.now c.args.p.to_new.now)))
    (drop_all c.loop-index.index c.args.names.now past))
