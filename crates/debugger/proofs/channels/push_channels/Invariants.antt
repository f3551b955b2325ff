use Rattle.std.proofs.Common.{◌≡◌, ◌≤◌, ◌*◌, ◌++◌, length}
use Rattle.std.specs.Prelude.{◌==◌, not, filter}
use Rattle.std.specs.List.{flat_map, range_with_len}
use Rattle.arrayvec.specs.ArrayVec.{array_vec_len}
use Rattle.debugger.specs.Channels.{channel_line, channel_word}
use Rattle.debugger.proofs.channels.push_channels.Given as goal

abbrev pub invariant-loop-number : goal.invariant-loop-number
invariant-loop-number l = record {
  items : l.text.items ≡ l.initial.text.items ++ flat_map (channel_line l.store)
      (filter (λ c. not (channel_word l.store c == 0)) (range_with_len 0 l.number));
  count : l.count ≡ length (filter (λ c. not (channel_word l.store c == 0)) (range_with_len 0 l.number));
  few : l.count ≤ l.number;
  len : array_vec_len l.text ≤ 15 * l.number;
}
