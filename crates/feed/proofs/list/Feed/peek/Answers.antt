use Rattle.std.proofs.Common.{sym, ◌∙◌}
use Rattle.feed.proofs.DueLaws.{due-at}
use Rattle.feed.proofs.list.Feed.peek.Goals as goal

pub returns : goal.returns
returns c = λ f. c.when_come.ensures ∙ sym (due-at c.args.self.now c.args.taken c.args.cycles c.entry.result (c.entry.ensures f))
