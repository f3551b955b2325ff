use Rattle.std.proofs.Common.{◌∙◌, sym, ap}
use Rattle.expect.specs.Kinds.{first_other}
use Rattle.expect.proofs.Noted.{at_other, past_listed}
use Rattle.expect.proofs.kinds.first_other.Goals as goal

pub returns-then-is_other : goal.returns-then-is_other
returns-then-is_other c =
    sym (c.loop-line.invariant ∙ ap (first_other c.args.allowed.now) c.in-Some.ensures.lines
    ∙ at_other c.args.allowed.now _ _ (sym c.is_other.ensures ∙ c.if-is_other.true))

pub loop-line-preserved : goal.loop-line-preserved
loop-line-preserved c =
    c.loop-line.invariant ∙ ap (first_other c.args.allowed.now) c.in-Some.ensures.lines
    ∙ past_listed c.args.allowed.now _ _ (sym c.is_other.ensures ∙ c.if-is_other.false)

pub returns : goal.returns
unfolding first_other
returns c = sym (c.loop-line.invariant ∙ ap (first_other c.args.allowed.now) c.in_default.ensures.lines)
