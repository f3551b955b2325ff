use Rattle.std.proofs.Common.{◌∙◌, ◌+◌, drop, sym, ap, arith}
use Rattle.std.proofs.lemmas.List.{drop_all}
use Rattle.words.proofs.Writing.{from_one}
use Rattle.expect.specs.Verdicts.{first_failing}
use Rattle.expect.proofs.Steps.{at_failed, past_failed}
use Rattle.expect.proofs.verdict.first_failing.Goals as goal

pub returns-then-is_some : goal.returns-then-is_some
returns-then-is_some c =
    let more = drop (c.loop-watch.watch-index + 1) c.args.watches.now in
    let split = from_one c.args.watches.now c.loop-watch.watch-index c.watch-item.result (omega arith) c.watch-item.is in
    at_failed c.args.test c.watch-item.result more c.failed_of-failed.result c.failed_of-failed.ensures
    (sym c.is_some.ensures ∙ c.if-is_some.true)
    ∙ sym (c.loop-watch.invariant ∙ ap (first_failing c.args.test) split)

pub loop-watch-preserved : goal.loop-watch-preserved
loop-watch-preserved c =
    let more = drop (c.loop-watch.watch-index + 1) c.args.watches.now in
    let split = from_one c.args.watches.now c.loop-watch.watch-index c.watch-item.result (omega arith) c.watch-item.is in
    c.loop-watch.invariant ∙ ap (first_failing c.args.test) split
    ∙ past_failed c.args.test c.watch-item.result more c.failed_of-failed.result c.failed_of-failed.ensures
    (sym c.is_some.ensures ∙ c.if-is_some.false)

pub returns : goal.returns
unfolding first_failing
returns c = sym (c.loop-watch.invariant ∙ ap (first_failing c.args.test)
    (drop_all c.loop-watch.watch-index c.args.watches.now (omega arith)))
