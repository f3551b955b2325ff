use Rattle.std.proofs.Common.{ℕ, ◌-◌, ◌++◌, ◌∙◌, List, ap, sym}
use Rattle.std.specs.Prelude.{codes, decimal}
use Rattle.std.proofs.lemmas.Result.{err_from_is_err_and}
use Rattle.cpu.specs.State.{Scenario}
use Rattle.replay.specs.Retraced.{texts_after}
use Rattle.debugger.specs.Replies.{line}
use Rattle.debugger.proofs.SteppedOutputs.{step_line, tail_is}
use Rattle.debugger.proofs.WhyLines.{first_part, two_parts}
use Rattle.debugger.proofs.stepped_tail.tail_steps.Goals as goal

pub returns-in_err-retrace-clause-writes : goal.returns-in_err-retrace-clause-writes
returns-in_err-retrace-clause-writes g c = λ told.
    let scenario = c.args.session.now.scenario in
    let was = c.last_outputs-first in
    let first = was.result.0 in
    let end = line (codes "TAIL " ++ decimal was.result.1) in
    let count = ap (λ k. k - first) (c.steps.ensures.value ∙ was.ensures.looked.steps) in
    let text = ap (λ (q : Scenario). texts_after (step_line q) q first (c.steps.result - first)) was.ensures.looked.scenario
    ∙ ap (texts_after (step_line scenario) scenario first) count in
    let whole = tail_is scenario c.args.session.now.n c.args.count first was.result.1 was.ensures.within was.ensures.found was.ensures.last
    in
    let failed = err_from_is_err_and c.from_residual.result c.from_residual.ensures.1 in
    rw failed.1 (first_part _ _ _ end _ (whole ∙ ap (λ (t : List ℕ). t ++ end) (sym text)) (c.in_err-retrace.ensures.written told))

pub returns-clause-writes : goal.returns-clause-writes
returns-clause-writes g c = λ told.
    let scenario = c.args.session.now.scenario in
    let was = c.last_outputs-first in
    let first = was.result.0 in
    let end = line (codes "TAIL " ++ decimal was.result.1) in
    let count = ap (λ k. k - first) (c.steps.ensures.value ∙ was.ensures.looked.steps) in
    let text = ap (λ (q : Scenario). texts_after (step_line q) q first (c.steps.result - first)) was.ensures.looked.scenario
    ∙ ap (texts_after (step_line scenario) scenario first) count in
    let whole = tail_is scenario c.args.session.now.n c.args.count first was.result.1 was.ensures.within was.ensures.found was.ensures.last
    in
    let last = c.as_slice.ensures.value ∙ c.number_line.ensures.items in
    two_parts _ _ _ _ c.as_slice.result.now _ _
    (whole ∙ ap (λ (t : List ℕ). t ++ end) (sym text)
    ∙ ap (λ (y : List ℕ). texts_after (step_line was.new.session.scenario) was.new.session.scenario first (c.steps.result - first) ++ y)
    (sym last))
    (c.in_ok-retrace.ensures.written told) (c.write_all.ensures.written told)
