use Rattle.std.proofs.Common.{◌∙◌, ap}
use Rattle.std.proofs.lemmas.Result.{err_from_is_err_and}
use Rattle.yayul.specs.Layout.{Layout}
use Rattle.yayul.specs.Listing.{shown}
use Rattle.yayul.proofs.Lines.{said_on, text_known, line_told, line_taken, line_refused}
use Rattle.yayul.proofs.layout.Layout.line.Goals as goal

pub returns-in-Some : goal.returns-in-Some
returns-in-Some c = λ s agrees _. line_told c.args.line s c.args.text.now c.in-Some.kind
    (text_known c.args.self.now s c.args.line c.args.text.now c.text_fault.result agrees.same c.text_fault.ensures ∙ c.in-Some.is)

pub returns : goal.returns
returns c = λ s agrees.
    line_taken c.args.line s c.args.text.now c.statement_on-statement.result c.operation.new.self c.operation.new.placing c.of-mark.result
    (text_known c.args.self.now s c.args.line c.args.text.now c.text_fault.result agrees.same c.text_fault.ensures ∙ c.in_default.is)
    (said_on c.args.self.now s c.args.text.now c.statement_on-statement.result c.statement_on-statement.ensures agrees.same)
    (c.of-mark.ensures ∙ ap (λ (t : Layout). shown t.location c.statement_on-statement.result) agrees.same)
    (c.in_ok-operation.ensures s agrees)

pub returns-in_err-operation : goal.returns-in_err-operation
returns-in_err-operation c = λ s agrees.
    let p = err_from_is_err_and c.from_residual.result c.from_residual.ensures.1 in
    rw (p.1, p.2) (line_refused c.args.line s c.args.text.now c.statement_on-statement.result c.operation.new.self c.operation.new.placing
    c.in_err-operation.field-0.0
    (text_known c.args.self.now s c.args.line c.args.text.now c.text_fault.result agrees.same c.text_fault.ensures ∙ c.in_default.is)
    (said_on c.args.self.now s c.args.text.now c.statement_on-statement.result c.statement_on-statement.ensures agrees.same)
    (c.in_err-operation.ensures s agrees))
