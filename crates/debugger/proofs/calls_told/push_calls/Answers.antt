use Rattle.std.proofs.Common.{◌∙◌, ◌++◌, ap, arith, length}
use Rattle.debugger.proofs.LastFirst.{pushed_call}
use Rattle.debugger.proofs.calls_told.push_calls.Goals as goal

pub loop-left-preserved : goal.loop-left-preserved
loop-left-preserved c =
    let so_far = c.loop-left.invariant in
    record {
      left = omega (arith, so_far.left);
      items = pushed_call c.args.symbols.now c.args.calls.now c.loop-left.left c.index-calls-left.result c.loop-left.text.items _ _
          (omega (arith, c.loop-left-test.true)) so_far.left c.index-calls-left.is so_far.items
          (c.push_all.ensures.items ∙ ap (λ (x : _). c.loop-left.text.items ++ x) (c.as_slice.ensures.value ∙ c.call_line.ensures.items));
      len = omega (
        arith,
        so_far.len,
        c.push_all.ensures.len,
        c.as_slice.ensures.value,
        c.call_line.ensures.short,
        c.loop-left-test.true,
        ap
            length (c.as_slice.ensures.value),
      );
    }
