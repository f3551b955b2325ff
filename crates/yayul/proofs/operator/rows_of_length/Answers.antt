use Rattle.std.proofs.Common.{sym, arith}
use Rattle.yayul.proofs.Columns.{no_row_of_length}
use Rattle.yayul.proofs.operator.rows_of_length.Goals as goal

pub returns-in_default-clause-rows : goal.returns-in_default-clause-rows
returns-in_default-clause-rows c = sym (no_row_of_length c.args.count (λ low high. omega arith))
