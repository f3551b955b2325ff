use Rattle.std.proofs.Common.{◌≡◌, ◌+◌, ◌++◌}
use Rattle.arrayvec.specs.ArrayVec.{array_vec_len}
use Rattle.yayul.specs.Listing.{blanks}
use Rattle.yayul.proofs.listing.push_blanks.Given as goal

abbrev pub invariant-loop-i : goal.invariant-loop-i
invariant-loop-i g l = record {
  items : l.line.items ≡ l.initial.line.items ++ blanks l.i;
  len : array_vec_len l.line ≡ array_vec_len l.initial.line + l.i;
}
