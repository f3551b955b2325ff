use Rattle.std.proofs.Common.{◌∙◌, ap}
use Rattle.agc_text.specs.Tables.{value_in}
use Rattle.yayul.specs.Flight.{flight_rows}
use Rattle.yayul.proofs.ByLength.{value_in-of_length}
use Rattle.yayul.proofs.operator.own_row_of.Goals as goal

pub returns : goal.returns
returns c = c.find_row.ensures ∙ ap (λ table. value_in table c.args.name.now) c.flight_rows_of_length.ensures
    ∙ value_in-of_length flight_rows c.args.name.now
