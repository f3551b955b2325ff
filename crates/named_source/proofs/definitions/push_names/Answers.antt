use Rattle.std.proofs.Common.{◌≤◌, length, sym, arith}
use Rattle.named_source.specs.NamedSources.{all_names, name_lines}
use Rattle.named_source.proofs.Steps.{texts_next, texts_end}
use Rattle.named_source.proofs.definitions.push_names.Goals as goal

pub loop-index-preserved : goal.loop-index-preserved
loop-index-preserved c =
    texts_next (name_lines c.args.labels.now c.args.asked.now) c.args.names.now c.loop-index.index
    (c.in-Some.entry.0.now, c.in-Some.entry.1) _ _ _ c.loop-index.invariant (sym c.in-Some.ensures.value)
    (rw (c.as_slice.ensures.value, c.name_lines-lines.ensures) at c.in_ok-extend_from_slice.ensures.items)

pub returns : goal.returns
unfolding all_names
returns c =
    let past : length c.args.names.now ≤ c.loop-index.index = omega (arith, c.loop-index-test.false, c.len-index-end.ensures) in
    texts_end (name_lines c.args.labels.now c.args.asked.now) c.args.names.now c.loop-index.index _ _ past c.loop-index.invariant
