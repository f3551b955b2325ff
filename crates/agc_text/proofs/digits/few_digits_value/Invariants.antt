use Rattle.std.proofs.Common.{◌≡◌, ◌<◌, ◌^◌, take, map, true}
use Rattle.std.specs.List.{list_all}
use Rattle.std.specs.Int.Digits.{number_from_digits}
use Rattle.agc_text.specs.Digits.{is_digit, digit_value}
use Rattle.agc_text.proofs.digits.few_digits_value.Given as goal

abbrev pub invariant-loop-byte : goal.invariant-loop-byte
invariant-loop-byte l = record {
  in_range : l.value < 10 ^ l.byte-index;
  all_digits : list_all (is_digit l.base) (take l.byte-index l.field) ≡ true;
  value : l.value ≡ number_from_digits l.base (map digit_value (take l.byte-index l.field));
}
