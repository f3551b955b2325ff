use Rattle.std.proofs.Common.{◌∙◌, ◌+◌, sym, ap, arith}
use Rattle.agc_text.specs.Lines.{lines}
use Rattle.names.specs.Tables.{names_of}
use Rattle.names.proofs.Steps.{after_name, after_nothing, after_wrong, defined}
use Rattle.names.proofs.table.names_after.Goals as goal

pub loop-first-preserved-in-Nothing : goal.loop-first-preserved-in-Nothing
loop-first-preserved-in-Nothing c = record {
  left = c.loop-first.invariant.left ∙ ap (names_of c.loop-first.names c.loop-first.line) c.in-Some.ensures.lines
      ∙ after_nothing _ _ _ _ (sym c.in-Nothing.ensures);
  lines = let l = c.loop-first.invariant.lines in omega (arith, l, c.in-Some.ensures.shorter);
}

pub returns-in-Wrong-clause-fault : goal.returns-in-Wrong-clause-fault
returns-in-Wrong-clause-fault c =
    c.loop-first.invariant.left ∙ ap (names_of c.loop-first.names c.loop-first.line) c.in-Some.ensures.lines
    ∙ after_wrong _ _ _ _ (sym c.in-Wrong.ensures)

pub loop-first-preserved : goal.loop-first-preserved
loop-first-preserved c = record {
  left = c.loop-first.invariant.left ∙ ap (names_of c.loop-first.names c.loop-first.line) c.in-Some.ensures.lines
      ∙ after_name _ _ _ _ _ _ (sym c.in-Names.ensures)
      ∙ ap (λ table. names_of table (c.loop-first.line + 1) (lines c.in-Some.following.now))
      (sym (defined c.in-Ok.field-0 _ _ _ _ c.in-Ok.ensures.added c.in-Ok.ensures.ok));
  lines = let l = c.loop-first.invariant.lines in omega (arith, l, c.in-Some.ensures.shorter);
}

pub returns-clause-ok : goal.returns-clause-ok
unfolding names_of
returns-clause-ok c = c.loop-first.invariant.left ∙ ap (names_of c.loop-first.names c.loop-first.line) c.in_default.ensures.lines
