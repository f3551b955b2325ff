use Rattle.std.proofs.Common.{◌≡◌, ◌+◌, ◌*◌, ◌++◌, take}
use Rattle.std.specs.List.{flat_map}
use Rattle.arrayvec.specs.ArrayVec.{array_vec_len}
use Rattle.debugger.specs.Surveys.{watch_text}
use Rattle.debugger.proofs.bucket.push_watches.Given as goal

abbrev pub invariant-loop-watch : goal.invariant-loop-watch
invariant-loop-watch l = record {
  items : l.line.items ≡ l.initial.line.items ++ flat_map watch_text (take l.watch-index l.watches.items);
  len : array_vec_len l.line ≡ array_vec_len l.initial.line + 20 * l.watch-index;
}
