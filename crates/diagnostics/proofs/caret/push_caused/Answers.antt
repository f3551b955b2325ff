use Rattle.std.proofs.Common.{◌∙◌, ◌++◌, List, ℕ, ap}
use Rattle.std.proofs.lemmas.Result.{on_ok_weaker}
use Rattle.diagnostics.specs.Report.{marks_text, row_text}
use Rattle.diagnostics.proofs.Merging.{five_appended}
use Rattle.diagnostics.proofs.caret.push_caused.Goals as goal

pub returns : goal.returns
returns c =
    let shown = c.shown_part-shown.ensures in
    let place = c.in_ok-push_place.ensures in
    let message = c.in_ok-push_message.ensures in
    let row = c.in_ok-push_row.ensures ∙ ap (λ (text : List ℕ). c.push_message.new.out.items ++ row_text text c.args.note.now.told) shown in
    let marks = c.in_ok-push_marks.ensures
    ∙ ap (λ (text : List ℕ). c.push_row.new.out.items ++ marks_text text c.args.note.now.told) shown in
    on_ok_weaker c.push_cure.result (λ cure. five_appended c.args.out.now.items _ _ _ _ _ _ _ _ _ _ place message row marks cure)
    c.push_cure.ensures
