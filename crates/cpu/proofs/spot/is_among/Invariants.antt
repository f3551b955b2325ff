use Rattle.std.proofs.Common.{◌≡◌, false, take}
use Rattle.cpu.specs.Links.{is_in}
use Rattle.cpu.proofs.spot.is_among.Given as goal

abbrev pub invariant-loop-index : goal.invariant-loop-index
invariant-loop-index l = is_in l.cell (take l.index l.cells) ≡ false
