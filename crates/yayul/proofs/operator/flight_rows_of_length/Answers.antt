use Rattle.std.proofs.Common.{sym, arith}
use Rattle.yayul.proofs.Columns.{no_own_row_of_length}
use Rattle.yayul.proofs.operator.flight_rows_of_length.Goals as goal

pub returns-in_default : goal.returns-in_default
returns-in_default c = sym (no_own_row_of_length c.args.count (λ low high. omega arith))
