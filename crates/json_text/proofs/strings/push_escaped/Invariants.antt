use Rattle.std.proofs.Common.{◌≡◌, ◌+◌, ◌*◌, ◌≤◌, ◌++◌, take}
use Rattle.arrayvec.specs.ArrayVec.{array_vec_len}
use Rattle.json_text.specs.Strings.{escaped}
use Rattle.json_text.proofs.strings.push_escaped.Given as goal

abbrev pub invariant-loop-byte : goal.invariant-loop-byte
invariant-loop-byte g l = record {
  items : l.line.items ≡ l.initial.line.items ++ escaped (take l.byte-index l.text);
  short : array_vec_len l.line ≤ array_vec_len l.initial.line + 6 * l.byte-index;
}
