use Rattle.std.proofs.Common.{◌≡◌, ◌≤◌, ◌+◌, ◌++◌, take}
use Rattle.std.specs.List.{flat_map}
use Rattle.arrayvec.specs.ArrayVec.{array_vec_len}
use Rattle.access.specs.Accesses.{slot_count, slots}
use Rattle.access.specs.Below.{AreBelow}
use Rattle.access.proofs.step_slots.push_writes.Given as goal

abbrev pub invariant-loop-cell : goal.invariant-loop-cell
invariant-loop-cell l = record {
  items : l.found.items ≡ l.initial.found.items
      ++ flat_map (slots l.view l.number l.level 1) (take l.cell-index l.cells);
  known : AreBelow (slot_count l.view) l.found.items;
  len : array_vec_len l.found ≤ 8 + l.cell-index;
}
