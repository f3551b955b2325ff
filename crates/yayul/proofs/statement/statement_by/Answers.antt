use Rattle.std.proofs.Common.{ap, ◌∙◌}
use Rattle.agc_text.specs.Fields.{fields, label_of, others_of}
use Rattle.yayul.specs.Forms.{label_in, statement_of}
use Rattle.yayul.proofs.Fields.{text_of_piece, operation_by-pieces}
use Rattle.yayul.proofs.statement.statement_by.Goals as goal

pub returns : goal.returns
unfolding statement_of
returns c = λ text apart.
    let line = c.args.line.now in
    λ j. record {
      label = (c.label_in.ensures ∙ ap label_in (text_of_piece line.label (label_of (fields text)) apart.label)) j;
      operation = (c.operation_by.ensures ∙ operation_by-pieces line (others_of (fields text)) apart.operator apart.operand
          apart.offset apart.more) j;
    }
