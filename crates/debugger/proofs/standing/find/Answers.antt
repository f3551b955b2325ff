use Rattle.std.proofs.Common.{◌∙◌, ◌+◌, ◌++◌, ℕ, List, ap, sym, arith, drop}
use Rattle.std.proofs.lemmas.Result.{err_from_is_err_and}
use Rattle.debugger.specs.Standing.{found_from}
use Rattle.debugger.proofs.PartByPart.{left_less, left_none, left_broken}
use Rattle.debugger.proofs.Standings.{found_yes, found_no, found_end}
use Rattle.debugger.proofs.standing.find.Goals.{then-begins_with+in_ok-write_all, else-begins_with}
use Rattle.debugger.proofs.standing.find.Goals as goal

pub returns-in_err-write_all-clause-writes : goal.returns-in_err-write_all-clause-writes
returns-in_err-write_all-clause-writes g c = λ told.
    let failed = err_from_is_err_and c.from_residual.result c.from_residual.ensures.1 in
    let rest = found_from (c.loop-index.found + 1) c.args.beginning.now (drop (c.loop-index.index + 1) c.args.symbols.now) in
    rw failed.1 (left_broken _ _ _ _ c.as_slice.result.now rest _ (c.loop-index.invariant.written told)
    (found_yes c.args.beginning.now c.args.symbols.now c.loop-index.found c.loop-index.index (c.in-Some.name.now, c.in-Some.value)
    c.in-Some.ensures.value (sym c.if-begins_with.ensures)
    ∙ ap (λ (y : List ℕ). y ++ rest) (sym (c.as_slice.ensures.value ∙ c.found_line.ensures)))
    (c.in_err-write_all.ensures.written told))

pub loop-index-preserved : goal.loop-index-preserved
loop-index-preserved g c =
    elim c.if-begins_with.branch [
      | then-begins_with+in_ok-write_all w ↦ rw (w.out-is, w.found-is) (record {
        few = omega (arith, c.loop-index.invariant.few);
        failures = w.in_ok-write_all.ensures.failures ∙ c.loop-index.invariant.failures;
        written = λ told.
            let rest = found_from (c.loop-index.found + 1) c.args.beginning.now (drop (c.loop-index.index + 1) c.args.symbols.now) in
            left_less _ _ _ _ w.as_slice.result.now rest _ (c.loop-index.invariant.written told)
            (found_yes c.args.beginning.now c.args.symbols.now c.loop-index.found c.loop-index.index (c.in-Some.name.now, c.in-Some.value)
            c.in-Some.ensures.value (sym w.if-begins_with.ensures)
            ∙ ap (λ (y : List ℕ). y ++ rest) (sym (w.as_slice.ensures.value ∙ w.found_line.ensures)))
            (w.in_ok-write_all.ensures.written told);
      })
      | else-begins_with w ↦ rw (w.out-is, w.found-is) (record {
        few = omega (arith, c.loop-index.invariant.few);
        failures = c.loop-index.invariant.failures;
        written = λ told. rw (← found_no c.args.beginning.now c.args.symbols.now c.loop-index.found c.loop-index.index
            (c.in-Some.name.now, c.in-Some.value) c.in-Some.ensures.value (sym w.if-begins_with.ensures))
            (c.loop-index.invariant.written told);
      })
    ]

pub returns-clause-writes : goal.returns-clause-writes
returns-clause-writes g c = λ told.
    left_none _ _ _ _ c.as_slice-2.result.now _ _ (c.loop-index.invariant.written told)
    (found_end c.args.beginning.now c.args.symbols.now c.loop-index.found c.loop-index.index
    (omega (arith, c.loop-index-test.false, c.len-index-end.ensures)) ∙ sym (c.as_slice-2.ensures.value ∙ c.number_line.ensures.items))
    (c.write_all-2.ensures.written told)
