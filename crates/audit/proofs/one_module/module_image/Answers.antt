use Rattle.std.proofs.Common.{[], arith}
use Rattle.rope.specs.Reading.{image_length}
use Rattle.audit.specs.Layouts.{module_image, module_part}
use Rattle.audit.proofs.PartTexts.{items_more, items_end}
use Rattle.audit.proofs.one_module.module_image.Goals as goal

pub loop-byte-preserved : goal.loop-byte-preserved
loop-byte-preserved c =
    items_more (module_part c.args.number c.args.high c.args.low c.args.bytes.now) c.loop-byte.byte [] _ _ c.loop-byte.invariant
    (rw c.module_byte.ensures at c.in_ok-push.ensures.items)

pub returns : goal.returns
unfolding module_image
returns c = items_end (module_part c.args.number c.args.high c.args.low c.args.bytes.now) c.loop-byte.byte image_length [] _ (omega arith)
    c.loop-byte.invariant
