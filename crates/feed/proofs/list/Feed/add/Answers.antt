use Rattle.std.proofs.Common.{◌≡◌, None, length, map, ap, subst, sym, arith, List}
use Rattle.feed.specs.Added.{AddsLast}
use Rattle.feed.specs.CountsTaken.{number_from}
use Rattle.feed.specs.Kept.{IsPlaceOf}
use Rattle.feed.specs.Order.{IsInOrder}
use Rattle.feed.specs.Merged.{merged, plain_entry}
use Rattle.feed.specs.declared.entry.Entry.{Entry}
use Rattle.feed.specs.declared.entry.Plain.{Plain}
use Rattle.feed.proofs.CountLaws.{fits-adds}
use Rattle.feed.proofs.DueLaws.{due-adds}
use Rattle.feed.proofs.AddLaws.{gathered-adds, feed-added, number-plain}
use Rattle.feed.proofs.GrowLaws.{inputs-of}
use Rattle.feed.proofs.list.Feed.add.Goals as goal

pub returns-then-as_slice-ge-MOST_INPUTS-clause-full : goal.returns-then-as_slice-ge-MOST_INPUTS-clause-full
returns-then-as_slice-ge-MOST_INPUTS-clause-full c = λ _.
    let n = number-plain c.self.inside.plain.items c.self.inside.sources.items c.self.invariant.gathered.sources in
    let same : number_from None (merged c.self.inside.plain.items c.self.inside.sources.items)
    ≡ number_from None c.args.self.now = ap (number_from None) c.self.view_is in
    let long = ap length c.as_slice.ensures.value in
    omega (arith, n, same, long)

pub place_of-place-requires : goal.place_of-place-requires
place_of-place-requires c = subst (λ (l : List Plain). IsInOrder (map plain_entry l)) (sym c.deref.ensures.value)
    c.self.invariant.gathered.sources.plain_in_order

pub invariant_of-self : goal.invariant_of-self
invariant_of-self c =
    let place = subst (λ (l : List Plain). IsPlaceOf l c.args.cycle c.place_of-place.result) c.deref.ensures.value c.place_of-place.ensures
    in
    let long = ap length c.as_slice.ensures.value in
    feed-added c.self.inside.plain.items c.insert.new.self.items c.self.inside.sources.items c.self.inside.known c.self.inside.due_at
    c.self.inside.line c.args.cycle c.place_of-place.result c.args.input c.self.inside.kept c.self.invariant place
    c.in-Ok.ensures.items (omega (arith, long))

adds-last : goal.returns-in-Ok-clause-added
adds-last c =
    let place = subst (λ (l : List Plain). IsPlaceOf l c.args.cycle c.place_of-place.result) c.deref.ensures.value c.place_of-place.ensures
    in
    let adds = gathered-adds c.self.inside.plain.items c.insert.new.self.items c.self.inside.sources.items c.self.inside.line c.args.cycle
    c.place_of-place.result c.args.input c.self.invariant.gathered place c.in-Ok.ensures.items in
    subst (λ (l : List Entry). AddsLast l c.args.cycle c.args.input (merged c.insert.new.self.items c.self.inside.sources.items))
    c.self.view_is adds

pub returns-in-Ok-clause-added : goal.returns-in-Ok-clause-added
returns-in-Ok-clause-added c = adds-last c

pub returns-in-Ok-clause-room : goal.returns-in-Ok-clause-room
returns-in-Ok-clause-room c = λ _.
    let n = number-plain c.self.inside.plain.items c.self.inside.sources.items c.self.invariant.gathered.sources in
    let same : number_from None (merged c.self.inside.plain.items c.self.inside.sources.items)
    ≡ number_from None c.args.self.now = ap (number_from None) c.self.view_is in
    let long = ap length c.as_slice.ensures.value in
    omega (arith, n, same, long)

pub returns-in-Err-clause-room : goal.returns-in-Err-clause-room
returns-in-Err-clause-room c = λ _.
    let n = number-plain c.self.inside.plain.items c.self.inside.sources.items c.self.invariant.gathered.sources in
    let same : number_from None (merged c.self.inside.plain.items c.self.inside.sources.items)
    ≡ number_from None c.args.self.now = ap (number_from None) c.self.view_is in
    let long = ap length c.as_slice.ensures.value in
    omega (arith, n, same, long)

pub returns-in-Ok-clause-fits : goal.returns-in-Ok-clause-fits
returns-in-Ok-clause-fits c = λ taken counts below f. fits-adds c.args.self.now _ c.args.cycle taken c.args.input counts (adds-last c) below
    f

of-feed : goal.returns-in-Ok-clause-inputs
of-feed c = inputs-of c.self.inside.plain.items c.self.inside.sources.items c.self.inside.line c.args.self.now c.self.invariant.gathered
    c.self.view_is

pub returns-in-Ok-clause-later : goal.returns-in-Ok-clause-later
returns-in-Ok-clause-later c = λ k cycles below.
    due-adds c.args.self.now _ c.args.cycle c.args.input k cycles (adds-last c) (of-feed c).order below

pub returns-in-Ok-clause-inputs : goal.returns-in-Ok-clause-inputs
returns-in-Ok-clause-inputs c = of-feed c
