use Rattle.std.proofs.Common.{◌≡◌, false, take}
use Rattle.cpu.specs.Chains.{is_any_in}
use Rattle.cpu.proofs.cell_set.CellSet.has_any.Given as goal

abbrev pub invariant-loop-index : goal.invariant-loop-index
invariant-loop-index l = is_any_in (take l.index l.cells) l.self ≡ false
