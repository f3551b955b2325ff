use Rattle.std.proofs.Common.{◌<◌, ◌≤◌, arith}
use Rattle.replay.proofs.ImageLemmas.{All-step}
use Rattle.replay.proofs.showing.draw_near.Goals as goal

pub unreachable-requires : goal.unreachable-requires
unreachable-requires g c =
    let none = All-step (λ s. c.args.t < s) (g.K.Keeper.images c.args.keeper.now) c.in-None.ensures 0 c.requires.first in
    omega arith

pub returns-then-shown-step-clause-near : goal.returns-then-shown-step-clause-near
returns-then-shown-step-clause-near g c = λ k has early. All-step (λ s. s ≤ c.args.t → s ≤ c.in-Some.step)
    (g.K.Keeper.images c.args.keeper.now) c.in-Some.ensures.greatest k has early

pub returns-else-t-shown-clause-near : goal.returns-else-t-shown-clause-near
returns-else-t-shown-clause-near g c = λ k has early.
    let greatest = All-step (λ s. s ≤ c.args.t → s ≤ c.in-Some.step) (g.K.Keeper.images c.args.keeper.now) c.in-Some.ensures.greatest k has
    early in
    omega (arith, greatest, c.if-shown-step.false)
