use Rattle.std.proofs.Common.{◌++◌, ◌∙◌, codes, decimal, append_assoc}
use Rattle.audit.specs.Damages.{of_sum}
use Rattle.audit.proofs.damages.push_of_sum.Goals as goal

pub returns-then-wants : goal.returns-then-wants
unfolding of_sum
returns-then-wants c =
    rw (c.if-wants.true, c.push_all-then-wants.ensures.items, c.push_decimal.ensures.items, c.push_all.ensures.items, c.from.ensures)
    (append_assoc (c.args.line.now.items ++ codes ", WRONG IN ") (decimal c.args.wrongs) (codes " WORDS BY THE SUM\n")
    ∙ append_assoc c.args.line.now.items (codes ", WRONG IN ") (decimal c.args.wrongs ++ codes " WORDS BY THE SUM\n"))
