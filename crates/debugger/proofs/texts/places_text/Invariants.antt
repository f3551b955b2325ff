use Rattle.std.proofs.Common.{◌≡◌, ◌*◌, take}
use Rattle.std.specs.List.{flat_map}
use Rattle.arrayvec.specs.ArrayVec.{array_vec_len}
use Rattle.words.specs.Numerals.{octal_text}
use Rattle.debugger.specs.Replies.{line}
use Rattle.debugger.proofs.texts.places_text.Given as goal

abbrev pub invariant-loop-place : goal.invariant-loop-place
invariant-loop-place l = record {
  items : l.text.items ≡ flat_map (λ p. line (octal_text 4 p)) (take l.place-index l.places);
  len : array_vec_len l.text ≡ 5 * l.place-index;
}
