use Rattle.std.proofs.Common.{◌∙◌, ap, sym}
use Rattle.yayul.specs.Layout.{standing}
use Rattle.yayul.specs.Inside.Answers.{least_kind}
use Rattle.yayul.proofs.Least.{none_least}
use Rattle.yayul.proofs.LineAgrees.{held_agrees}
use Rattle.yayul.proofs.layout.Layout.operation.Goals as goal

pub perform-requires : goal.perform-requires
perform-requires c =
    sym (c.conditions.ensures c.args.line) ∙ none_least (standing c.conditions.result) (sym c.least_fault.ensures ∙ c.in_default.is)

pub returns-in-Some : goal.returns-in-Some
returns-in-Some c = λ s agrees known.
    ap least_kind (sym (c.conditions.ensures c.args.line
    ∙ held_agrees c.args.line s c.args.self.now c.args.placing.now c.args.label c.args.operation agrees))
    ∙ sym c.least_fault.ensures ∙ c.in-Some.is

pub returns-in-Ok : goal.returns-in-Ok
returns-in-Ok c = λ s agrees. (
  sym (held_agrees c.args.line s c.args.self.now c.args.placing.now c.args.label c.args.operation agrees)
      ∙ sym (c.conditions.ensures c.args.line) ∙ none_least (standing c.conditions.result) (sym c.least_fault.ensures ∙ c.in_default.is),
  c.in-Ok.ensures s agrees,
)
