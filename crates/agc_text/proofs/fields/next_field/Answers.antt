use Rattle.std.proofs.Common.{sym, ◌∙◌, ap, nat_le}
use Rattle.agc_text.specs.Fields.{runs}
use Rattle.std.specs.List.{slice_get, find}
use Rattle.agc_text.proofs.Runs.{find_run, head_of, slice_if}
use Rattle.agc_text.proofs.fields.next_field.Goals as goal

pub returns-clause-found : goal.returns-clause-found
returns-clause-found c =
    sym (head_of c.before_comment.result.now c.next_run.result)
    ∙ ap (λ fs. slice_get fs 0) c.next_run.ensures.first
    ∙ sym (find_run c.before_comment.result.now c.args.from)
    ∙ ap (λ text. find (λ f. nat_le c.args.from f.start) (runs text)) c.before_comment.ensures

pub returns-clause-slice : goal.returns-clause-slice
returns-clause-slice c = slice_if c.args.line.now _ c.next_run.result (rw c.before_comment.ensures at c.next_run.ensures.slice)
