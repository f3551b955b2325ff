use Rattle.std.proofs.Common.{◌∙◌, refl, ap, arith}
use Rattle.std.proofs.lemmas.Result.{err_from_is_err_and}
use Rattle.expect.specs.Facts.{facts_of}
use Rattle.expect.specs.Verdicts.{verdicts}
use Rattle.expect.proofs.Steps.{at_verdict, past_line}
use Rattle.words.proofs.Writing.{so_far_breaks, so_far_ends, so_far_more, so_far_same, so_far_start}
use Rattle.expect.proofs.verdict.write_verdicts.Goals as goal

pub loop-statement-init : goal.loop-statement-init
loop-statement-init g c = record { written = λ told. so_far_start _ _; failures = refl; short = c.requires; few = omega arith }

pub loop-statement-preserved-in-Continue-1 : goal.loop-statement-preserved-in-Continue-1
loop-statement-preserved-in-Continue-1 g c = record {
  written = λ told.
      so_far_more _ _ _ _ _ _ _ (c.loop-statement.invariant.written told)
      (ap (verdicts (facts_of c.args.known.now) c.loop-statement.tests c.args.watches.now) c.in-Some.ensures.statements
      ∙ at_verdict (facts_of c.args.known.now) c.loop-statement.tests c.args.watches.now _ _ _ c.in-Some-name_of.ensures)
      (rw c.first_failing.ensures at (c.in_ok-write_verdict-in-Some-name_of.ensures.written told));
  failures = c.in_ok-write_verdict-in-Some-name_of.ensures.failures ∙ c.loop-statement.invariant.failures;
  short = omega (arith, c.loop-statement.invariant.short, c.in-Some.ensures.shorter);
  few = omega (arith, c.loop-statement.invariant.few, c.in-Some.ensures.later);
}

pub returns-in_err-write_verdict-in-Some-name_of-clause-written : goal.returns-in_err-write_verdict-in-Some-name_of-clause-written
returns-in_err-write_verdict-in-Some-name_of-clause-written g c = λ told.
    let p = err_from_is_err_and c.from_residual.result c.from_residual.ensures.1 in
    rw p.1 (so_far_breaks _ _ _ _ _ _ _ (c.loop-statement.invariant.written told)
    (ap (verdicts (facts_of c.args.known.now) c.loop-statement.tests c.args.watches.now) c.in-Some.ensures.statements
    ∙ at_verdict (facts_of c.args.known.now) c.loop-statement.tests c.args.watches.now _ _ _ c.in-Some-name_of.ensures)
    (rw c.first_failing.ensures at (c.in_err-write_verdict-in-Some-name_of.ensures.written told)))

pub loop-statement-preserved : goal.loop-statement-preserved
loop-statement-preserved g c = record {
  written = λ told.
      so_far_same _ _ _ _ _ (c.loop-statement.invariant.written told)
      (ap (verdicts (facts_of c.args.known.now) c.loop-statement.tests c.args.watches.now) c.in-Some.ensures.statements
      ∙ past_line (facts_of c.args.known.now) c.loop-statement.tests c.args.watches.now _ _ c.in-None.ensures);
  failures = c.loop-statement.invariant.failures;
  short = omega (arith, c.loop-statement.invariant.short, c.in-Some.ensures.shorter);
  few = omega (arith, c.loop-statement.invariant.few, c.in-Some.ensures.later);
}

pub returns-clause-written : goal.returns-clause-written
unfolding verdicts
returns-clause-written g c = λ told. so_far_ends _ _ _ _ (c.loop-statement.invariant.written told)
    (ap (verdicts (facts_of c.args.known.now) c.loop-statement.tests c.args.watches.now) c.in_default.ensures.statements)
