use Rattle.std.proofs.Common.{◌≡◌, ◌≤◌, ◌+◌, ◌*◌, ◌++◌, take}
use Rattle.std.specs.List.{flat_map}
use Rattle.arrayvec.specs.ArrayVec.{array_vec_len}
use Rattle.debugger.specs.Whys.{cell_text}
use Rattle.debugger.proofs.link_texts.push_cells.Given as goal

abbrev pub invariant-loop-cell : goal.invariant-loop-cell
invariant-loop-cell g l = record {
  items : l.text.items ≡ l.initial.text.items ++ flat_map (cell_text l.symbols l.machine.cells) (take l.cell-index l.cells);
  len : array_vec_len l.text ≤ array_vec_len l.initial.text + 16 * l.cell-index;
}
