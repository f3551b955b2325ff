use Rattle.std.proofs.Common.{◌∙◌, arith}
use Rattle.std.proofs.lemmas.Result.{err_from_is_err_and}
use Rattle.rope.specs.Places.{banks}
use Rattle.audit.proofs.PartTexts.{begins_parts, writes_more, front_ends}
use Rattle.align.specs.AlignLines.{bank_lines, sides, view_lines}
use Rattle.align.proofs.lines.write_view.Goals as goal

pub returns-in_err-write_bank-clause-written : goal.returns-in_err-write_bank-clause-written
unfolding view_lines
returns-in_err-write_bank-clause-written g c = λ told.
    let p = err_from_is_err_and c.from_residual.result c.from_residual.ensures.1 in
    rw p.1 (begins_parts (bank_lines c.args.view (sides c.args.s.pairs.now c.args.s.here.now c.args.s.back.now c.args.s.there.now))
    c.loop-bank.bank banks _ _ _ c.loop-bank-test.true
    (c.loop-bank.invariant.written told) (c.in_err-write_bank.ensures.written told))

pub loop-bank-preserved : goal.loop-bank-preserved
loop-bank-preserved g c = record {
  written = λ told.
      writes_more (bank_lines c.args.view (sides c.args.s.pairs.now c.args.s.here.now c.args.s.back.now c.args.s.there.now))
      c.loop-bank.bank _ _ _ (c.loop-bank.invariant.written told)
      (c.in_ok-write_bank.ensures.written told);
  failures = c.in_ok-write_bank.ensures.failures ∙ c.loop-bank.invariant.failures;
}

pub returns-clause-written : goal.returns-clause-written
unfolding view_lines
returns-clause-written g c = λ told.
    front_ends (bank_lines c.args.view (sides c.args.s.pairs.now c.args.s.here.now c.args.s.back.now c.args.s.there.now)) c.loop-bank.bank
    banks _ _ (omega arith) (c.loop-bank.invariant.written told)
