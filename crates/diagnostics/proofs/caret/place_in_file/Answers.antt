use Rattle.std.proofs.Common.{◌≤◌, length, decimal, ap, arith}
use Rattle.words.proofs.Digits.{short_decimal}
use Rattle.diagnostics.proofs.Room.{room_of, short_line}
use Rattle.diagnostics.proofs.caret.place_in_file.Goals as goal

pub prepend_decimal-requires : goal.prepend_decimal-requires
prepend_decimal-requires c = omega (arith, ap length c.new-place.ensures, short_decimal c.args.column (omega arith))

pub prepend-requires : goal.prepend-requires
prepend-requires c = omega (
  arith,
  ap length c.new-place.ensures,
  room_of c.args.column 20 _ _ (short_decimal c.args.column (omega arith)) c.prepend_decimal.ensures,
)

pub prepend_decimal-requires-2 : goal.prepend_decimal-requires-2
prepend_decimal-requires-2 c = omega (
  arith,
  ap length c.new-place.ensures,
  room_of c.args.column 20 _ _ (short_decimal c.args.column (omega arith)) c.prepend_decimal.ensures,
  ap length c.prepend.ensures,
  ap (λ n. length (decimal n)) c.from.ensures,
  short_line c.args.line (omega arith),
)

pub prepend-requires-2 : goal.prepend-requires-2
prepend-requires-2 c =
    let short : length (decimal c.from.result) ≤ 10 = omega (
      arith,
      ap (λ n. length (decimal n)) c.from.ensures,
      short_line c.args.line (omega arith),
    ) in
    omega (
      arith,
      ap length c.new-place.ensures,
      room_of c.args.column 20 _ _ (short_decimal c.args.column (omega arith)) c.prepend_decimal.ensures,
      ap length c.prepend.ensures,
      room_of c.from.result 10 _ _ short c.prepend_decimal-2.ensures,
    )
