use Rattle.std.specs.Prelude.{decimal}
use Rattle.expect.proofs.Steps.{pushed_three}
use Rattle.expect.proofs.verdict.push_number.Goals as goal

pub returns-clause-items : goal.returns-clause-items
returns-clause-items c = pushed_three c.args.text.now.items c.args.before.now (decimal c.args.number) c.args.after.now _ _ _
    c.push_all.ensures.items c.push_decimal.ensures.items c.push_all-2.ensures.items
