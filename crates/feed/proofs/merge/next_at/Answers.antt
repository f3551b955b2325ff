use Rattle.std.proofs.Common.{rules, ap, ◌∙◌, ◌<◌, ◌+◌, Option, subst, sym, refl, arith, length, slice_get, Some, ◌≡◌}
use Rattle.feed.specs.Heads.{IsLeastUpTo, head}
use Rattle.feed.specs.declared.entry.Entry.{Entry}
use Rattle.feed.proofs.HeadLaws.{least-first, least-more, least-all}
use Rattle.feed.proofs.CountTests.{series-at}
use Rattle.feed.proofs.Merging.{next_entry}
use Rattle.feed.proofs.merge.next_at.Goals as goal

pub loop-index-init : goal.loop-index-init
loop-index-init c =
    least-first c.args.plain.now c.args.sources.now c.args.taken c.args.counts.now c.saturating_sub-number.result c.plain_head-next.result
    (search rules) c.plain_head-next.ensures

pub loop-index-preserved : goal.loop-index-preserved
loop-index-preserved c =
    let within : c.loop-index.index < length c.args.sources.now = omega arith in
    let at : slice_get c.args.sources.now c.loop-index.index ≡ Some c.index-sources-index.result =
    series-at c.args.sources.now c.args.sources.now c.loop-index.index c.index-sources-index.result refl within
    ∙ ap Some (sym c.index-sources-index.is) in
    subst (λ (o : Option Entry). IsLeastUpTo (c.loop-index.index + 1)
    (head c.args.plain.now c.args.sources.now c.args.taken c.args.counts.now) o) (sym c.earlier-next.ensures)
    (least-more c.args.plain.now c.args.sources.now c.args.taken c.args.counts.now c.loop-index.index c.index-sources-index.result
    c.loop-index.next c.entry.result at c.entry.ensures c.loop-index.invariant)

pub returns : goal.returns
returns c = λ f.
    next_entry c.args.plain.now c.args.sources.now c.args.taken c.args.counts.now _ c.requires.sources (omega (arith, c.requires.few)) f
    (least-all c.args.plain.now c.args.sources.now c.args.taken c.args.counts.now c.loop-index.index c.loop-index.next (omega arith)
    c.loop-index.invariant)
