use Rattle.std.proofs.Common.{◌≡◌, ◌∙◌}
use Rattle.replay.specs.Images.{without}
use Rattle.replay.proofs.ImageLemmas.{IsRising-without, without-place}
use Rattle.replay.proofs.vec_keeper.VecKeeperKeeper.remove.Goals as goal

pub place_of-place-requires : goal.place_of-place-requires
place_of-place-requires c = rw c.deref.ensures.value c.requires

pub invariant_of-self : goal.invariant_of-self
invariant_of-self c =
    let images = c.args.self.now.images.items in
    let found = c.place_of-place.ensures in
    let left : c.remove.new.self.items ≡ without images c.args.step = c.remove.ensures.items
    ∙ without-place images c.place_of-place.result c.args.step c.remove.result c.args.self.now.rising
    (rw c.deref.ensures.value at found.within) (rw c.deref.ensures.value at (found.step c.remove.result)) in
    record { rising = rw left (IsRising-without images c.args.step c.args.self.now.rising) }

pub returns : goal.returns
returns c =
    let images = c.args.self.now.images.items in
    let found = c.place_of-place.ensures in
    c.remove.ensures.items
    ∙ without-place images c.place_of-place.result c.args.step c.remove.result c.args.self.now.rising
    (rw c.deref.ensures.value at found.within) (rw c.deref.ensures.value at (found.step c.remove.result))
