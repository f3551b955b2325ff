use Rattle.std.proofs.Common.{◌≡◌, ◌≤◌, ◌++◌, take}
use Rattle.std.specs.List.{flat_map}
use Rattle.arrayvec.specs.ArrayVec.{array_vec_len}
use Rattle.access.specs.Accesses.{cell_in, slot_count, slots}
use Rattle.access.specs.Below.{AreBelow}
use Rattle.access.proofs.step_slots.push_reads.Given as goal

abbrev pub invariant-loop-spot : goal.invariant-loop-spot
invariant-loop-spot l = record {
  items : l.found.items ≡ l.initial.found.items
      ++ flat_map (slots l.view l.number l.level 0) (flat_map cell_in (take l.spot-index l.spots));
  known : AreBelow (slot_count l.view) l.found.items;
  len : array_vec_len l.found ≤ l.spot-index;
}
