use Rattle.std.proofs.Common.{◌∙◌, ◌+◌, Some, ap, arith}
use Rattle.std.specs.Option.{option_map}
use Rattle.trace.specs.TraceLines.{behind_text, near_count, symbol_at}
use Rattle.trace.proofs.Nearness.{near_found, near_passed}
use Rattle.trace.proofs.near.near_erasable.Goals as goal

pub loop-passed-preserved : goal.loop-passed-preserved
loop-passed-preserved g c =
    near_passed (g.N.Names.table c.args.names.now) c.args.place c.loop-passed.passed (near_count c.args.place) _
    (omega (arith, c.loop-passed-test.true, c.near_count-passed-end.ensures.value)) c.loop-passed.invariant
    (c.in_default.ensures.name ∙ ap (symbol_at (g.N.Names.table c.args.names.now)) c.place_before.ensures)

pub returns-in-Some-clause-name : goal.returns-in-Some-clause-name
returns-in-Some-clause-name g c =
    let found = near_found (g.N.Names.table c.args.names.now) c.args.place c.loop-passed.passed (near_count c.args.place) _
    c.in-Some.name.now (omega (arith, c.loop-passed-test.true, c.near_count-passed-end.ensures.value)) c.loop-passed.invariant
    (c.in-Some.ensures.name ∙ ap (symbol_at (g.N.Names.table c.args.names.now)) c.place_before.ensures) in
    ap Some c.behind.ensures.items ∙ ap (option_map (behind_text c.args.gap.now)) found
