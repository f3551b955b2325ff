use Rattle.std.proofs.Common.{◌∙◌, ◌+◌, ◌++◌, ℕ, List, ap, sym, arith, drop, map}
use Rattle.std.proofs.lemmas.Result.{err_from_is_err_and}
use Rattle.feed.specs.Merged.{plain_entry}
use Rattle.debugger.specs.Inputs.{lines_from}
use Rattle.debugger.proofs.Added.{input_yes, input_no, input_end, is_told, is_passed}
use Rattle.debugger.proofs.PartByPart.{left_less, left_none, left_broken}
use Rattle.debugger.proofs.inputs.write_inputs.Goals.{then-first-from+in_ok-write_all, else-first-from}
use Rattle.debugger.proofs.inputs.write_inputs.Goals as goal

pub returns-in_err-write_all-clause-writes : goal.returns-in_err-write_all-clause-writes
returns-in_err-write_all-clause-writes g c = λ told.
    let failed = err_from_is_err_and c.from_residual.result c.from_residual.ensures.1 in
    let i = c.loop-input.input-index in
    let p = c.input-item.result in
    let rest = lines_from c.args.first (c.loop-input.count + 1) (map plain_entry (drop (i + 1) c.args.plain.now)) in
    rw failed.1 (left_broken _ _ _ _ c.as_slice.result.now rest _ (c.loop-input.invariant.written told)
    (input_yes c.args.first c.args.plain.now c.loop-input.count i p c.loop-input-test.true (sym c.input-item.is)
    (is_told c.args.first p.line (rw c.from.ensures at c.if-first-from.true))
    ∙ ap (λ (y : List ℕ). y ++ rest) (sym (c.as_slice.ensures.value ∙ c.input_line.ensures.items)))
    (c.in_err-write_all.ensures.written told))

pub loop-input-preserved : goal.loop-input-preserved
loop-input-preserved g c =
    let i = c.loop-input.input-index in
    let p = c.input-item.result in
    elim c.if-first-from.branch [
      | then-first-from+in_ok-write_all w ↦ rw (w.out-is, w.count-is) (record {
        few = omega (arith, c.loop-input.invariant.few);
        failures = w.in_ok-write_all.ensures.failures ∙ c.loop-input.invariant.failures;
        written = λ told.
            let rest = lines_from c.args.first (c.loop-input.count + 1) (map plain_entry (drop (i + 1) c.args.plain.now)) in
            left_less _ _ _ _ w.as_slice.result.now rest _ (c.loop-input.invariant.written told)
            (input_yes c.args.first c.args.plain.now c.loop-input.count i p c.loop-input-test.true (sym c.input-item.is)
            (is_told c.args.first p.line (rw c.from.ensures at w.if-first-from.true))
            ∙ ap (λ (y : List ℕ). y ++ rest) (sym (w.as_slice.ensures.value ∙ w.input_line.ensures.items)))
            (w.in_ok-write_all.ensures.written told);
      })
      | else-first-from w ↦ rw (w.out-is, w.count-is) (record {
        few = omega (arith, c.loop-input.invariant.few);
        failures = c.loop-input.invariant.failures;
        written = λ told. rw (← input_no c.args.first c.args.plain.now c.loop-input.count i p c.loop-input-test.true (sym c.input-item.is)
            (is_passed c.args.first p.line (rw c.from.ensures at w.if-first-from.false))) (c.loop-input.invariant.written told);
      })
    ]

pub returns-clause-writes : goal.returns-clause-writes
returns-clause-writes g c = λ told.
    left_none _ _ _ _ c.as_slice-2.result.now _ _ (c.loop-input.invariant.written told)
    (input_end c.args.first c.args.plain.now c.loop-input.count c.loop-input.input-index c.loop-input-test.false
    ∙ sym (c.as_slice-2.ensures.value ∙ c.number_line.ensures.items))
    (c.write_all-2.ensures.written told)
