use Rattle.agc_text.proofs.Runs.{slice_if}
use Rattle.agc_text.proofs.fields.Line.of.Goals as goal

pub returns-clause-slices : goal.returns-clause-slices
returns-clause-slices c = record {
  label = slice_if c.args.line.now _ c.label_and_operator.result.0
      (rw c.before_comment-text.ensures at c.label_and_operator.ensures.label_slice);
  operator = slice_if c.args.line.now _ c.label_and_operator.result.1
      (rw c.before_comment-text.ensures at c.label_and_operator.ensures.operator_slice);
  operand = slice_if c.args.line.now _ c.following-operand.result (rw c.before_comment-text.ensures at c.following-operand.ensures.slice);
  offset = slice_if c.args.line.now _ c.following-offset.result (rw c.before_comment-text.ensures at c.following-offset.ensures.slice);
}
