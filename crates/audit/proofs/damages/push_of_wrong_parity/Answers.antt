use Rattle.std.proofs.Common.{◌++◌, ◌∙◌, codes, decimal, append_assoc}
use Rattle.audit.specs.Damages.{of_wrong_parity}
use Rattle.audit.proofs.damages.push_of_wrong_parity.Goals as goal

pub returns-then-some : goal.returns-then-some
unfolding of_wrong_parity
returns-then-some c =
    rw (c.if-some.true, c.push_all-then-some.ensures.items, c.push_decimal.ensures.items, c.push_all.ensures.items, c.from.ensures)
    (append_assoc (c.args.line.now.items ++ codes ", ") (decimal c.args.wrongs) (codes " OF WRONG PARITY\n")
    ∙ append_assoc c.args.line.now.items (codes ", ") (decimal c.args.wrongs ++ codes " OF WRONG PARITY\n"))
