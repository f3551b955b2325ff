use Rattle.std.proofs.Common.{refl}
use Rattle.feed.specs.Merged.{merged}
use Rattle.feed.proofs.GrowLaws.{inputs-of}
use Rattle.feed.proofs.KeptLaws.{entry-series}
use Rattle.feed.proofs.list.Feed.next.Goals as goal

pub returns-in-Some-clause-series : goal.returns-in-Some-clause-series
returns-in-Some-clause-series c =
    let list = merged c.self.inside.plain.items c.self.inside.sources.items in
    let inputs = inputs-of c.self.inside.plain.items c.self.inside.sources.items c.self.inside.line list c.self.invariant.gathered refl in
    entry-series list c.self.inside.known c.in-Some.entry c.self.inside.kept inputs c.self.invariant.next c.in-Some.is

pub returns-in-Some-clause-inputs : goal.returns-in-Some-clause-inputs
returns-in-Some-clause-inputs c = inputs-of c.self.inside.plain.items c.self.inside.sources.items c.self.inside.line c.args.self.now
    c.self.invariant.gathered c.self.view_is
