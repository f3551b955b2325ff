use Rattle.std.proofs.Common.{◌∙◌}
use Rattle.holes.proofs.AroundPlaces.{first, more}
use Rattle.holes.proofs.around.put_around_holes.Goals as goal

pub loop-number-init : goal.loop-number-init
loop-number-init c = first c.args.words.now c.args.other.now c.args.image.now

pub loop-number-preserved : goal.loop-number-preserved
loop-number-preserved c = (rw (c.loop-number.invariant, c.bank_of.ensures) at c.put_in_bank.ensures)
    ∙ more c.args.words.now c.args.other.now c.args.image.now c.loop-number.number
