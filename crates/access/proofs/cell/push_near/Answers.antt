use Rattle.std.proofs.Common.{◌∙◌, ◌+◌, ap, arith}
use Rattle.space.specs.declared.place.Linear.TheVariants.{Erasable}
use Rattle.trace.specs.TraceLines.{symbol_at}
use Rattle.names.proofs.Nearest.{nearest_passed}
use Rattle.access.proofs.cell.push_near.Goals as goal

pub loop-distance-preserved : goal.loop-distance-preserved
loop-distance-preserved c = record {
  line = c.loop-distance.invariant.line;
  near = nearest_passed c.args.names.now (Erasable c.args.place) c.loop-distance.distance (c.args.place + 1) _
      (omega (arith, c.loop-distance-test.true)) c.loop-distance.invariant.near
      (c.in_default.ensures.name ∙ ap (symbol_at c.args.names.now) c.place_before.ensures);
}
