use Rattle.std.proofs.Common.{sym, ◌∙◌}
use Rattle.std.proofs.Common.{◌<◌, arith, subst, Option, IfSome, ℕ}
use Rattle.feed.specs.declared.input.Input.{Input}
use Rattle.feed.proofs.CountLaws.{counts-small, given-room, given-series}
use Rattle.feed.proofs.DueLaws.{due-at}
use Rattle.feed.proofs.list.Feed.due.Goals as goal

pub returns-clause-value : goal.returns-clause-value
returns-clause-value c = λ f. c.when_come.ensures
    ∙ sym (due-at c.args.self.now c.args.taken c.args.cycles c.next.result (c.next.ensures.entry f))

pub returns-clause-room : goal.returns-clause-room
returns-clause-room c = λ f. given-room c.args.self.now c.args.taken c.args.counts.now _ (omega arith) c.next.ensures.inputs f

pub returns-clause-small : goal.returns-clause-small
returns-clause-small c = counts-small c.args.self.now c.args.taken c.args.counts.now c.next.ensures.inputs

pub returns-clause-series : goal.returns-clause-series
returns-clause-series c = subst (λ (o : Option (Input × Option ℕ)). IfSome o (λ given. IfSome given.1 (λ j. j < 16)))
    (sym c.when_come.ensures) (given-series c.args.cycles c.next.result c.next.ensures.series)
