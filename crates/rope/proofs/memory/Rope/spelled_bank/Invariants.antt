use Rattle.std.proofs.Common.{◌≡◌, ◌*◌}
use Rattle.arrayvec.specs.ArrayVec.{array_vec_len}
use Rattle.rope.specs.Places.{bank_words}
use Rattle.rope.specs.Image.{image_part}
use Rattle.rope.proofs.memory.Rope.spelled_bank.Given as goal

abbrev pub invariant-loop-offset : goal.invariant-loop-offset
invariant-loop-offset l = record {
  items : l.bytes.items ≡ image_part l.version l.self (bank_words * l.entry) l.offset;
  len : array_vec_len l.bytes ≡ 2 * l.offset;
}
