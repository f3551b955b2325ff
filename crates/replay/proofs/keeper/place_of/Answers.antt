use Rattle.std.proofs.Common.{arith}
use Rattle.replay.proofs.ImageLemmas.{Any-kept}
use Rattle.replay.proofs.keeper.place_of.Goals as goal

pub unreachable-requires : goal.unreachable-requires
unreachable-requires g c =
    let (k, found, below, is, same) = Any-kept c.args.kept.now c.args.step c.requires in
    c.loop-place.invariant k found (omega arith) below (rw is same)
