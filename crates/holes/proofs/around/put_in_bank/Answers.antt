use Rattle.std.proofs.Common.{◌∙◌}
use Rattle.holes.proofs.AroundPlaces.{bank_first, bank_more}
use Rattle.holes.proofs.around.put_in_bank.Goals as goal

pub loop-number-init : goal.loop-number-init
loop-number-init c = bank_first c.args.words.now c.args.other.now c.args.image.now c.args.bank

pub loop-number-preserved : goal.loop-number-preserved
loop-number-preserved c = (rw (c.loop-number.invariant, c.offset_of.ensures) at c.put_at.ensures)
    ∙ bank_more c.args.words.now c.args.other.now c.args.image.now c.args.bank c.loop-number.number
