use Rattle.space.proofs.CellLemmas.{view-zero, IsStored-zero, selects-zero}
use Rattle.space.proofs.store.Store.zero.Goals as goal

pub invariant_of-result : goal.invariant_of-result
invariant_of-result c = record {
  numbers = rw (c.zero_registers.ensures, c.zero_erasable.ensures, c.silent_channels.ensures) (IsStored-zero 8 2048 512);
  selects = rw (c.zero_registers.ensures, c.silent_channels.ensures) (selects-zero 8 512);
}

pub returns : goal.returns
returns c = rw (c.zero_registers.ensures, c.zero_erasable.ensures, c.silent_channels.ensures) (view-zero 8 2048 512)
