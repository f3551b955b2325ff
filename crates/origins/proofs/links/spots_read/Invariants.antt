use Rattle.std.proofs.Common.{◌≡◌, ◌≤◌, ◌*◌, drop}
use Rattle.std.specs.List.{flat_map}
use Rattle.arrayvec.specs.ArrayVec.{array_vec_len}
use Rattle.cpu.specs.Links.{link, sources}
use Rattle.cpu.specs.declared.spot.Spot.TheVariants.{Cell}
use Rattle.origins.specs.Following.{with_spots, reads}
use Rattle.origins.proofs.links.spots_read.Given as goal

abbrev pub invariant-loop-cell : goal.invariant-loop-cell
invariant-loop-cell l = record {
  items : with_spots l.spots.items (flat_map (λ c. sources (link l.processor.scenario l.machine) (Cell c)) (drop l.cell-index l.cells))
      ≡ reads (link l.processor.scenario l.machine) l.cells;
  len : array_vec_len l.spots ≤ 6 * l.cell-index;
}
