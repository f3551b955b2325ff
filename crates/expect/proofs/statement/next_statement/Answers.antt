use Rattle.std.proofs.Common.{◌∙◌, sym, ap, arith}
use Rattle.agc_text.specs.Fields.{before_comment}
use Rattle.expect.specs.Statements.{statements}
use Rattle.expect.proofs.Steps.{at_field, past_blank}
use Rattle.expect.proofs.statement.next_statement.Goals as goal

pub returns-then-has_field-clause-statements : goal.returns-then-has_field-clause-statements
returns-then-has_field-clause-statements c =
    c.loop-line.invariant.left ∙ ap (statements c.loop-line.number) c.in-Some.ensures.lines
    ∙ at_field c.loop-line.number c.in-Some.line.now _ _ (c.before_comment-fields.ensures ∙ ap before_comment c.before_return-bare.ensures)
    (sym c.has_field.ensures ∙ c.if-has_field.true)

pub loop-line-preserved : goal.loop-line-preserved
loop-line-preserved c = record {
  left = c.loop-line.invariant.left ∙ ap (statements c.loop-line.number) c.in-Some.ensures.lines
      ∙ past_blank c.loop-line.number c.in-Some.line.now _ _
      (c.before_comment-fields.ensures ∙ ap before_comment c.before_return-bare.ensures)
      (sym c.has_field.ensures ∙ c.if-has_field.false);
  lines = omega (arith, c.loop-line.invariant.lines, c.in-Some.ensures.shorter);
  less = omega (arith, c.loop-line.invariant.less, c.in-Some.ensures.shorter);
  from = omega (arith, c.loop-line.invariant.from);
}

pub returns-clause-statements : goal.returns-clause-statements
unfolding statements
returns-clause-statements c = c.loop-line.invariant.left ∙ ap (statements c.loop-line.number) c.in_default.ensures.lines
