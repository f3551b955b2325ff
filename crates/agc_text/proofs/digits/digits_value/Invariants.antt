use Rattle.std.proofs.Common.{◌≡◌, take, map, true}
use Rattle.std.specs.List.{list_all}
use Rattle.std.specs.Int.Digits.{number_from_digits}
use Rattle.agc_text.specs.Digits.{is_digit, digit_value, sized}
use Rattle.agc_text.proofs.digits.digits_value.Given as goal

abbrev pub invariant-loop-byte : goal.invariant-loop-byte
invariant-loop-byte l = record {
  all_digits : list_all (is_digit l.base) (take l.byte-index l.field) ≡ true;
  value : l.number ≡ sized (number_from_digits l.base (map digit_value (take l.byte-index l.field)));
}
