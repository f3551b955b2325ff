use Rattle.std.proofs.Common.{arith, ◌∙◌, ap}
use Rattle.cpu.specs.Links.{link}
use Rattle.cpu.specs.declared.spot.Spot.{Spot}
use Rattle.origins.specs.Following.{with_spots}
use Rattle.std.proofs.Common.{List}
use Rattle.origins.proofs.Followed.{read_more}
use Rattle.origins.proofs.links.spots_read.Goals as goal

pub loop-cell-preserved : goal.loop-cell-preserved
loop-cell-preserved c = record {
  items = read_more (link c.args.processor.now.scenario c.args.machine.now) c.args.cells.now c.loop-cell.cell-index c.cell-item.result
      c.loop-cell.spots.items _ _ c.loop-cell-test.true
      c.cell-item.is (c.push_spots.ensures.items ∙ ap (λ (xs : List Spot). with_spots c.loop-cell.spots.items xs)
      (c.as_slice.ensures.value ∙ c.sources.ensures c.requires.fits)) c.loop-cell.invariant.items;
  len = omega (arith, c.loop-cell.invariant.len, c.push_spots.ensures.len, c.as_slice.ensures.fits);
}
