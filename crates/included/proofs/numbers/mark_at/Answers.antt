use Rattle.std.proofs.Common.{◌∙◌, sym}
use Rattle.included.proofs.Turns.{mark_found, mark_passed, rest_from}
use Rattle.included.proofs.numbers.mark_at.Goals as goal

pub returns-then-begins-clause-place : goal.returns-then-begins-clause-place
returns-then-begins-clause-place c =
    sym (mark_found c.args.mark.now c.args.text.now c.loop-n.n c.loop-n.n c.loop-n-test.true
    (rw (rest_from c.args.text.now c.loop-n.n) at (sym c.begins.ensures ∙ c.if-begins.true)))
    ∙ c.loop-n.invariant

pub loop-n-preserved : goal.loop-n-preserved
loop-n-preserved c =
    sym (mark_passed c.args.mark.now c.args.text.now c.loop-n.n c.loop-n.n c.loop-n-test.true
    (rw (rest_from c.args.text.now c.loop-n.n) at (sym c.begins.ensures ∙ c.if-begins.false)))
    ∙ c.loop-n.invariant
