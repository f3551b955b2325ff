use Rattle.std.proofs.Common.{[], length, arith}
use Rattle.audit.specs.Layouts.{arranged, part_in}
use Rattle.audit.proofs.PartTexts.{items_more, items_end}
use Rattle.audit.proofs.layout.arranged.Goals as goal

pub loop-number-preserved : goal.loop-number-preserved
loop-number-preserved c =
    items_more (part_in c.args.layout c.args.bytes.now) c.loop-number.number [] _ _ c.loop-number.invariant
    (rw c.byte_in.ensures at c.in_ok-push.ensures.items)

pub returns : goal.returns
unfolding arranged
returns c = items_end (part_in c.args.layout c.args.bytes.now) c.loop-number.number (length c.args.bytes.now) [] _ (omega arith)
    c.loop-number.invariant
