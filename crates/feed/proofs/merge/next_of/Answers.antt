use Rattle.std.proofs.Common.{sym, ◌∙◌, arith}
use Rattle.feed.proofs.CountTests.{fits-ended}
use Rattle.feed.proofs.HeadLaws.{least-series}
use Rattle.feed.proofs.Merging.{next_entry}
use Rattle.feed.proofs.merge.next_of.Goals as goal
use Rattle.feed.proofs.merge.next_of.Goals.{then-looked, else-looked}

pub returns-clause-entry : goal.returns-clause-entry
returns-clause-entry c = λ f. next_entry c.args.plain.now c.args.sources.now c.args.taken c.args.counts.now _ c.requires.sources
    (omega (arith, c.requires.few)) f c.look-looked.ensures.next

pub returns-clause-series : goal.returns-clause-series
returns-clause-series c = least-series c.args.plain.now c.args.sources.now c.args.taken c.args.counts.now c.look-looked.result.next
    c.requires.few c.look-looked.ensures.next

pub returns-clause-fits : goal.returns-clause-fits
returns-clause-fits c = λ h. elim c.if-looked.branch [
  | then-looked w ↦
      fits-ended c.args.plain.now c.args.sources.now c.args.taken c.args.counts.now c.look-looked.result.last c.look-looked.result.next
      c.requires.sources c.look-looked.ensures.next (c.look-looked.ensures.last w.if-looked.true)
      (sym w.passes-known.ensures ∙ sym w.known-is ∙ h)
  | else-looked w ↦ absurd (let e = w.known-is in cc)
]
