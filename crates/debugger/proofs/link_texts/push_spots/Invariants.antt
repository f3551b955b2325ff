use Rattle.std.proofs.Common.{◌≡◌, ◌≤◌, ◌+◌, ◌*◌, ◌++◌, take}
use Rattle.std.specs.List.{flat_map}
use Rattle.arrayvec.specs.ArrayVec.{array_vec_len}
use Rattle.debugger.specs.Whys.{spot_text}
use Rattle.debugger.proofs.link_texts.push_spots.Given as goal

abbrev pub invariant-loop-spot : goal.invariant-loop-spot
invariant-loop-spot l = record {
  items : l.text.items ≡ l.initial.text.items ++ flat_map (spot_text l.symbols l.processor.scenario.rope l.machine.cells)
      (take l.spot-index l.spots);
  len : array_vec_len l.text ≤ array_vec_len l.initial.text + 16 * l.spot-index;
}
