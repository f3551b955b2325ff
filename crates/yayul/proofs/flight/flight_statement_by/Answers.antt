use Rattle.std.proofs.Common.{ap, ◌∙◌}
use Rattle.agc_text.specs.Fields.{fields, label_of, others_of}
use Rattle.yayul.specs.Flight.{flight_label_in, uncounted_statement}
use Rattle.yayul.proofs.Fields.{text_of_piece, flight_operation_by-pieces}
use Rattle.yayul.proofs.flight.flight_statement_by.Goals as goal

pub returns : goal.returns
unfolding uncounted_statement
returns c =
    let line = c.args.line.now in
    let apart = c.requires.apart in
    let text = c.args.text.now in
    λ j. record {
      label = (c.flight_label_in.ensures ∙ ap flight_label_in (text_of_piece line.label (label_of (fields text)) apart.label)) j;
      operation = (c.operation_by.ensures ∙ flight_operation_by-pieces c.args.here text line (others_of (fields text))
          apart.operator apart.operand apart.offset apart.more) j;
    }
