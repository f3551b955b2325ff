use Rattle.std.proofs.Common.{◌≡◌, replicate, ap, ◌∙◌, arith}
use Rattle.cover.specs.Tallies.{account_count}
use Rattle.access.specs.Repeats.{no_kept}
use Rattle.access.proofs.tally.nothing_kept.Goals as goal

pub returns : goal.returns
returns c =
    let all : c.loop.counter ≡ account_count = omega (arith, c.loop-test.false, c.loop.auto.counter-end) in
    c.loop.invariant.items ∙ ap (λ n. replicate n no_kept) all
