use Rattle.std.proofs.Common.{◌<◌, ◌+◌, ◌*◌, ◌^◌, arith, refl}
use Rattle.std.proofs.lemmas.List.Folds.{list_all_more}
use Rattle.agc_text.specs.Digits.{is_digit}
use Rattle.agc_text.proofs.DigitSteps.{in_range_more, fits_more, value_more, digit_below, below_most}
use Rattle.agc_text.proofs.digits.few_digits_value.Goals as goal

below : (c : goal.In_ok-digit) → c.in_ok-digit.digit < c.args.base
below c = rw c.in_ok-digit.ensures.1 (digit_below c.args.base _ c.in_ok-digit.ensures.0)

fits : (c : goal.In_ok-digit) → c.loop-byte.value * c.args.base + c.in_ok-digit.digit < 2 ^ 64
fits c = fits_more c.loop-byte.value c.args.base c.in_ok-digit.digit c.loop-byte.byte-index c.loop-byte.invariant.in_range (omega arith)
    (omega arith) (below c)

pub overflow_mul-value : goal.overflow_mul-value
overflow_mul-value c = omega (arith, fits c)

pub overflow_add-value : goal.overflow_add-value
overflow_add-value c = omega (arith, fits c)

pub loop-byte-preserved : goal.loop-byte-preserved
loop-byte-preserved c = record {
  in_range = in_range_more c.loop-byte.value c.args.base c.in_ok-digit.digit c.loop-byte.byte-index c.loop-byte.invariant.in_range
      (omega arith) (below c);
  all_digits = rw (
    list_all_more (is_digit c.args.base) c.args.field.now c.loop-byte.byte-index 0 (omega arith),
    c.loop-byte.invariant.all_digits,
    c.in_ok-digit.ensures.0,
  ) refl;
  value = rw c.in_ok-digit.ensures.1 (value_more c.args.base c.args.field.now c.loop-byte.byte-index c.loop-byte.value (omega arith)
      c.loop-byte.invariant.value);
}

pub returns-clause-below : goal.returns-clause-below
returns-clause-below c = below_most c.loop-byte.value c.loop-byte.byte-index c.args.most c.loop-byte.invariant.in_range (omega arith)
