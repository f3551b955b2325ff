use Rattle.std.proofs.Common.{◌∙◌, true, ap, arith}
use Rattle.std.proofs.lemmas.List.{get_or_default, length-set}
use Rattle.delays.specs.declared.call.Call.{Call}
use Rattle.delays.specs.ShortTests.{low_bits}
use Rattle.delays.proofs.Short.{marked_more}
use Rattle.delays.proofs.call.marked_by.Goals as goal

pub loop-index-preserved : goal.loop-index-preserved
loop-index-preserved c =
    let before = c.loop-index.invariant in
    let n = c.loop-index.index in
    let it = c.index-calls-index.result in
    let low = c.low_bits.result in
    record {
      len = length-set c.loop-index.marked low true ∙ before.len;
      marked = marked_more c.loop-index.marked c.args.calls.now n low (omega (arith, c.low_bits.ensures.within, before.len)) before.marked
          (λ d. c.low_bits.ensures.value
          ∙ ap (λ (call : Call). low_bits call.back) (get_or_default c.args.calls.now n it d (omega (arith, c.loop-index-test.true))));
    }

pub returns : goal.returns
returns c = λ k d lt. c.loop-index.invariant.marked k d (omega (arith, lt, c.loop-index-test.false))
