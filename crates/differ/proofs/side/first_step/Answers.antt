use Rattle.std.proofs.Common.{◌≡◌, ◌+◌, ◌-◌, ◌*◌, ◌∙◌, sym, ap, arith}
use Rattle.differ.specs.declared.turn.Turn.{Turn}
use Rattle.differ.specs.MainSteps.{Side, parts, parts_by, moved}
use Rattle.differ.specs.Windows.{side_of}
use Rattle.differ.proofs.Turns.{parts_none, parts_within, turned}
use Rattle.differ.proofs.side.first_step.Goals as goal

pub returns-in-Ended-clause-parts : goal.returns-in-Ended-clause-parts
returns-in-Ended-clause-parts c =
    let i = c.loop.invariant in
    let here = side_of c.args.one.now.scenario c.args.steps c.loop.here in
    let there = side_of c.args.other.now.scenario c.args.steps c.loop.there in
    sym (i.left ∙ turned c.args.one.now.scenario c.args.other.now.scenario c.args.steps (2 * c.args.steps) c.loop.counter c.loop.here
    c.loop.there c.turn.result c.loop-test.true i.full i.other_full c.turn.ensures
    ∙ ap (parts_by (parts (2 * c.args.steps - (c.loop.counter + 1))) here there) c.in-Ended.is)

pub returns-in-Parts-clause-parts : goal.returns-in-Parts-clause-parts
returns-in-Parts-clause-parts c =
    let i = c.loop.invariant in
    let here = side_of c.args.one.now.scenario c.args.steps c.loop.here in
    let there = side_of c.args.other.now.scenario c.args.steps c.loop.there in
    sym (i.left ∙ turned c.args.one.now.scenario c.args.other.now.scenario c.args.steps (2 * c.args.steps) c.loop.counter c.loop.here
    c.loop.there c.turn.result c.loop-test.true i.full i.other_full c.turn.ensures
    ∙ ap (parts_by (parts (2 * c.args.steps - (c.loop.counter + 1))) here there) c.in-Parts.is)

pub returns-in-Parts-clause-within : goal.returns-in-Parts-clause-within
returns-in-Parts-clause-within c = parts_within c.args.steps _ _ _ _ c.turn.result c.in-Parts.a c.in-Parts.b c.loop.invariant.full.known
    c.loop.invariant.other_full.known c.turn.ensures c.in-Parts.is

pub loop-preserved : goal.loop-preserved
loop-preserved c =
    let i = c.loop.invariant in
    let one = c.args.one.now.scenario in
    let other = c.args.other.now.scenario in
    let here = side_of one c.args.steps c.loop.here in
    let there = side_of other c.args.steps c.loop.there in
    let rest = parts (2 * c.args.steps - (c.loop.counter + 1)) in
    let side = rw i.scenario at c.move_on.ensures.side in
    let other_side = rw i.other_scenario at c.move_on-in-Moves.ensures.side in
    record {
      scenario = c.move_on.ensures.scenario ∙ i.scenario;
      other_scenario = c.move_on-in-Moves.ensures.scenario ∙ i.other_scenario;
      meter = omega (arith, i.meter, c.move_on.ensures.once);
      other_meter = omega (arith, i.other_meter, c.move_on-in-Moves.ensures.once);
      full = rw i.scenario at c.move_on.ensures.full;
      other_full = rw i.other_scenario at c.move_on-in-Moves.ensures.full;
      left = i.left ∙ turned one other c.args.steps (2 * c.args.steps) c.loop.counter c.loop.here c.loop.there c.turn.result
          c.loop-test.true i.full i.other_full c.turn.ensures
          ∙ ap (parts_by rest here there) c.in-Moves.is
          ∙ ap (λ (s : Side). rest s (moved c.in-Moves.m there)) (sym side)
          ∙ ap (λ (t : Side). rest (side_of one c.args.steps c.move_on.new.self) t) (sym other_side);
    }

pub returns-clause-parts : goal.returns-clause-parts
returns-clause-parts c =
    sym (c.loop.invariant.left ∙ parts_none (2 * c.args.steps) c.loop.counter (side_of c.args.one.now.scenario c.args.steps c.loop.here)
    (side_of c.args.other.now.scenario c.args.steps c.loop.there) (omega (arith, c.loop-test.false)))
