use Rattle.std.proofs.Common.{◌∙◌, sym, ap, arith}
use Rattle.names.specs.Tables.{below}
use Rattle.names.proofs.Steps.{at_heading, at_other, past_row}
use Rattle.names.proofs.table.below_heading.Goals as goal

pub loop-first-preserved : goal.loop-first-preserved
loop-first-preserved c = record {
  left = c.loop-first.invariant.left ∙ ap (below c.loop-first.line) c.in-Some.ensures.lines
      ∙ past_row _ _ _ (sym c.is_heading.ensures ∙ c.if-is_heading.false) (sym c.is_row.ensures ∙ c.if-not-is_row.false);
  lines = let l = c.loop-first.invariant.lines in omega (arith, l, c.in-Some.ensures.shorter);
}

pub returns-then-is_heading-clause-below : goal.returns-then-is_heading-clause-below
returns-then-is_heading-clause-below c =
    sym (c.loop-first.invariant.left ∙ ap (below c.loop-first.line) c.in-Some.ensures.lines
    ∙ at_heading _ _ _ (sym c.is_heading.ensures ∙ c.if-is_heading.true))

pub returns-then-not-is_row-clause-below : goal.returns-then-not-is_row-clause-below
returns-then-not-is_row-clause-below c =
    sym (c.loop-first.invariant.left ∙ ap (below c.loop-first.line) c.in-Some.ensures.lines
    ∙ at_other _ _ _ (sym c.is_heading.ensures ∙ c.if-is_heading.false) (sym c.is_row.ensures ∙ c.if-not-is_row.true))

pub returns-clause-below : goal.returns-clause-below
unfolding below
returns-clause-below c = sym (c.loop-first.invariant.left ∙ ap (below c.loop-first.line) c.in_default.ensures.lines)
