use Rattle.std.proofs.Common.{◌∙◌, ap, IfSome, ◌≢◌}
use Rattle.std.specs.Option.{option_map}
use Rattle.agc_text.specs.Views.{piece}
use Rattle.agc_text.proofs.Runs.{label_is, no_label}
use Rattle.agc_text.proofs.fields.label_and_operator.Goals as goal
use Rattle.agc_text.proofs.fields.label_and_operator.Goals.{in_default-via-in-Some+else-label-eq0, in_default-via-in_default}

pub returns-in-Some-clause-label : goal.returns-in-Some-clause-label
returns-in-Some-clause-label c = ap (option_map piece) c.in-Some.is
    ∙ (label_is c.args.text.now c.in-Some.label c.in-Some.ensures.first c.if-label-eq0.true).0

pub returns-in-Some-clause-operator : goal.returns-in-Some-clause-operator
returns-in-Some-clause-operator c =
    c.next_run.ensures.first ∙ rw c.end.ensures (label_is c.args.text.now c.in-Some.label c.in-Some.ensures.first c.if-label-eq0.true).1

later : (c : goal.In_default) → IfSome c.next_run-first.result (λ f. f.start ≢ 0)
later c =
    elim c.in_default.branch [
      | in_default-via-in-Some+else-label-eq0 w ↦ rw w.in-Some.is (λ e. w.if-label-eq0.false e)
      | in_default-via-in_default w ↦ rw w.in_default.is tt
    ]

pub returns-in_default-clause-label : goal.returns-in_default-clause-label
returns-in_default-clause-label c = (no_label c.args.text.now c.next_run-first.result c.next_run-first.ensures.first (later c)).0

pub returns-in_default-clause-operator : goal.returns-in_default-clause-operator
returns-in_default-clause-operator c = (no_label c.args.text.now c.next_run-first.result c.next_run-first.ensures.first (later c)).1
