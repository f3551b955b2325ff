use Rattle.std.proofs.Common.{◌∙◌, ap, take, map, arith, refl}
use Rattle.std.specs.Int.Digits.{number_from_digits}
use Rattle.std.proofs.lemmas.List.Folds.{list_all_more}
use Rattle.agc_text.specs.Digits.{is_digit, digit_value, sized}
use Rattle.agc_text.proofs.DigitSteps.{value_more}
use Rattle.agc_text.proofs.digits.digits_value.Goals as goal

pub loop-byte-preserved : goal.loop-byte-preserved
loop-byte-preserved c =
    let so_far = number_from_digits c.args.base (map digit_value (take c.loop-byte.byte-index c.args.field.now)) in
    record {
      all_digits = rw (
        list_all_more (is_digit c.args.base) c.args.field.now c.loop-byte.byte-index 0 (omega arith),
        c.loop-byte.invariant.all_digits,
        c.in_ok-digit.ensures.0,
      ) refl;
      value =
          c.with_digit-number.ensures so_far c.loop-byte.invariant.value
          ∙ ap sized (rw c.in_ok-digit.ensures.1 (value_more c.args.base c.args.field.now c.loop-byte.byte-index so_far (omega arith)
          refl));
    }
