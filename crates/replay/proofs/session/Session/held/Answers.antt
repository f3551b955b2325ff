use Rattle.std.proofs.Common.{◌+◌, length, arith}
use Rattle.replay.proofs.FewImages.{Fits-room}
use Rattle.replay.proofs.session.Session.held.Goals as goal

pub overflow_add-result : goal.overflow_add-result
overflow_add-result g c =
    let images = g.K.Keeper.images c.self.inside.keeper in
    omega (arith, Fits-room c.self.inside.n (length images + 2) c.self.invariant.stands.within c.self.invariant.stands.few, c.count.ensures)
