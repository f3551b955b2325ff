use Rattle.std.proofs.Common.{◌≤◌, length, sym, arith}
use Rattle.named_source.proofs.Steps.{labels_next, labels_end}
use Rattle.named_source.proofs.definitions.labels_of.Goals as goal

pub loop-index-preserved : goal.loop-index-preserved
loop-index-preserved c =
    labels_next c.loop-index.labels _ _ c.args.names.now c.loop-index.index (c.in-Some.entry.0.now, c.in-Some.entry.1)
    c.loop-index.invariant (sym c.in-Some.ensures.value) c.in_ok-add_label.ensures

pub returns : goal.returns
returns c =
    let past : length c.args.names.now ≤ c.loop-index.index = omega (arith, c.loop-index-test.false, c.len-index-end.ensures) in
    labels_end c.loop-index.labels _ c.args.names.now c.loop-index.index past c.loop-index.invariant
