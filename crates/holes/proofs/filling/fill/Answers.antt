use Rattle.std.proofs.Common.{◌∙◌}
use Rattle.holes.proofs.FilledPlaces.{first, more}
use Rattle.holes.proofs.filling.fill.Goals as goal

pub loop-number-init : goal.loop-number-init
loop-number-init c = first c.args.words.now c.args.other.now c.args.from.now

pub loop-number-preserved : goal.loop-number-preserved
loop-number-preserved c = (rw (c.loop-number.invariant, c.bank_of.ensures) at c.fill_bank.ensures)
    ∙ more c.args.words.now c.args.other.now c.args.from.now c.loop-number.number
