use Rattle.std.proofs.Common.{arith}
use Rattle.replay.proofs.showing.reach.Goals as goal

pub returns-clause-most : goal.returns-clause-most
returns-clause-most g c = λ k has early. omega (arith, c.draw_near.ensures.near k has early, c.go_on.ensures.most)
