use Rattle.std.proofs.Common.{◌≡◌, ◌≤◌, ◌+◌, drop}
use Rattle.arrayvec.specs.ArrayVec.{array_vec_len}
use Rattle.origins.specs.Following.{with_spots}
use Rattle.origins.proofs.links.push_spots.Given as goal

abbrev pub invariant-loop-spot : goal.invariant-loop-spot
invariant-loop-spot l = record {
  items : with_spots l.spots.items (drop l.spot-index l.more) ≡ with_spots l.initial.spots.items l.more;
  len : array_vec_len l.spots ≤ array_vec_len l.initial.spots + l.spot-index;
}
