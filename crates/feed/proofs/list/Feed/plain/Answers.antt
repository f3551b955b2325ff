use Rattle.std.proofs.Common.{◌∙◌, sym, ap, None, filter, map, List}
use Rattle.feed.specs.CountsTaken.{is_from}
use Rattle.feed.specs.Merged.{plain_entry}
use Rattle.feed.specs.declared.entry.Plain.{Plain}
use Rattle.feed.proofs.SourceLaws.{source-merged}
use Rattle.feed.proofs.list.Feed.plain.Goals as goal

pub returns : goal.returns
returns c =
    ap (λ (l : List Plain). map plain_entry l) c.deref.ensures.value
    ∙ sym (source-merged c.self.inside.plain.items c.self.inside.sources.items None c.self.invariant.gathered.sources)
    ∙ ap (filter (is_from None)) c.self.view_is
