use Rattle.std.proofs.Common.{None, Some, ◌∙◌, arith, sym}
use Rattle.branches.proofs.Walking.{walked_on}
use Rattle.branches.proofs.leading.+leads_to.Goals as goal

pub returns-in-Some : goal.returns-in-Some
returns-in-Some t c =
    c.leads_to.ensures
    ∙ walked_on c.args.rope.now c.args.machine.now c.args.place.now c.place_at-there.result c.args.left c.args.at.now (Some c.in-Some.next)
    (omega arith) c.place_at-there.ensures (sym c.arrives.ensures ∙ c.if-arrives.false) c.in-Some.ensures

pub returns-in-None : goal.returns-in-None
returns-in-None t c =
    walked_on c.args.rope.now c.args.machine.now c.args.place.now c.place_at-there.result c.args.left c.args.at.now None
    (omega arith) c.place_at-there.ensures (sym c.arrives.ensures ∙ c.if-arrives.false) c.in-None.ensures
