use Rattle.std.proofs.Common.{◌∙◌, ap}
use Rattle.agc_text.specs.Tables.{value_in}
use Rattle.yayul.specs.Operators.{operator_rows}
use Rattle.yayul.proofs.ByLength.{value_in-of_length}
use Rattle.yayul.proofs.operator.row_of.Goals as goal

pub returns : goal.returns
returns c = c.find_row.ensures ∙ ap (λ table. value_in table c.args.name.now) c.rows_of_length.ensures.rows
    ∙ value_in-of_length operator_rows c.args.name.now
