use Rattle.std.proofs.Common.{◌∙◌}
use Rattle.feed.proofs.LineSteps.{none_gathered, merged-none}
use Rattle.feed.proofs.list.Feed.empty.Goals as goal

pub new-requires-3 : goal.new-requires-3
new-requires-3 c = rw (c.new.ensures.items, c.new-2.ensures) (none_gathered 1)

pub returns : goal.returns
returns c = c.new-3.ensures ∙ merged-none c.new.result.items c.new-2.result.items c.new.ensures.items c.new-2.ensures
