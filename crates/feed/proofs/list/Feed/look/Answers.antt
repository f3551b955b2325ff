use Rattle.std.proofs.Common.{◌∙◌, length, refl}
use Rattle.feed.proofs.GrowLaws.{inputs-of}
use Rattle.feed.proofs.KeptLaws.{written_back, feed-next}
use Rattle.feed.proofs.list.Feed.look.Goals as goal

pub invariant_of-self : goal.invariant_of-self
invariant_of-self c =
    let same = c.next_of-known.ensures.same ∙ c.deref_mut.ensures.value in
    let back = written_back c.self.inside.sources.items c.next_of-known.new.sources (length c.self.inside.sources.items) same refl in
    feed-next c.self.inside.plain.items c.deref.result.now c.self.inside.sources.items c.deref_mut.result.now _ c.self.inside.known
    c.self.inside.due_at c.self.inside.line c.args.taken c.due_from-self-inside.result c.args.counts.now c.self.inside.kept
    c.next_of-known.result.0
    c.self.invariant c.deref.ensures.value c.deref_mut.ensures.value back (c.next_of-known.ensures.fits c.if-known.true)
    c.next_of-known.ensures.entry c.due_from-self-inside.ensures

pub returns-then-known-clause-inputs : goal.returns-then-known-clause-inputs
returns-then-known-clause-inputs c = inputs-of c.self.inside.plain.items c.self.inside.sources.items c.self.inside.line c.args.self.now
    c.self.invariant.gathered c.self.view_is

pub returns-else-known-clause-inputs : goal.returns-else-known-clause-inputs
returns-else-known-clause-inputs c = inputs-of c.self.inside.plain.items c.self.inside.sources.items c.self.inside.line c.args.self.now
    c.self.invariant.gathered c.self.view_is
