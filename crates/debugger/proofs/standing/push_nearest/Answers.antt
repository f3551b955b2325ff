use Rattle.std.proofs.Common.{◌∙◌, ◌+◌, ap, arith}
use Rattle.trace.specs.TraceLines.{symbol_at}
use Rattle.names.specs.NamedLines.{places_before}
use Rattle.names.proofs.Nearest.{nearest_passed}
use Rattle.debugger.proofs.standing.push_nearest.Goals as goal

pub loop-distance-preserved : goal.loop-distance-preserved
loop-distance-preserved c = record {
  text = c.loop-distance.invariant.text;
  near = nearest_passed c.args.symbols.now c.args.place.now c.loop-distance.distance (places_before c.args.place.now + 1) _
      (omega (arith, c.loop-distance-test.true, c.places_before-distance-end.ensures.value)) c.loop-distance.invariant.near
      (c.in_default.ensures.name ∙ ap (symbol_at c.args.symbols.now) c.place_before.ensures);
}
