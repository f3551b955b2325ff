use Rattle.std.proofs.Common.{◌≡◌, ◌+◌, ◌-◌, ◌∙◌, refl, sym, ap, arith}
use Rattle.differ.specs.Outputs.{puts}
use Rattle.differ.proofs.Aparts.{apart_differs, apart_end, apart_none, apart_start, end_of}
use Rattle.differ.proofs.Steps.{run_zero}
use Rattle.differ.proofs.outputs.first_output.Goals as goal

pub loop-number-init : goal.loop-number-init
loop-number-init c = record {
  scenario = refl;
  other_scenario = refl;
  meter = omega arith;
  other_meter = omega arith;
  within = omega (arith, c.at_start-here.ensures.done);
  other_within = omega (arith, c.at_start-there.ensures.done);
  past = omega arith;
  other_past = omega arith;
  here = run_zero c.args.one.now.scenario _ _ c.at_start-here.ensures.machine c.at_start-here.ensures.done;
  there = run_zero c.args.other.now.scenario _ _ c.at_start-there.ensures.machine c.at_start-there.ensures.done;
  left = apart_start c.args.one.now.scenario c.args.other.now.scenario c.args.steps _ _ c.at_start-here.ensures.done
      c.at_start-there.ensures.done;
}

pub returns-then-both_none-clause-apart : goal.returns-then-both_none-clause-apart
returns-then-both_none-clause-apart c =
    let first = rw c.loop-number.invariant.scenario at c.next_put-a.ensures.puts in
    let second = rw c.loop-number.invariant.other_scenario at c.next_put-b.ensures.puts in
    sym (c.loop-number.invariant.left ∙ apart_none (c.loop-number.number + 1) _ _ _ _ c.next_put-a.result c.next_put-b.result first second
    (sym c.both_none.ensures ∙ c.if-both_none.true)
    (λ e. end_of _ _ _ (c.next_put-a.ensures.last e)) (λ e. end_of _ _ _ (c.next_put-b.ensures.last e)))

pub returns-then-not-are_same-clause-apart : goal.returns-then-not-are_same-clause-apart
returns-then-not-are_same-clause-apart c =
    let first = rw c.loop-number.invariant.scenario at c.next_put-a.ensures.puts in
    let second = rw c.loop-number.invariant.other_scenario at c.next_put-b.ensures.puts in
    let told = c.loop-number.invariant.left ∙ apart_differs (c.loop-number.number + 1) _ _ _ _ c.next_put-a.result c.next_put-b.result first
    second (sym c.both_none.ensures ∙ c.if-both_none.false)
    (sym c.are_same.ensures ∙ c.if-not-are_same.true) (λ e. end_of _ _ _ (c.next_put-a.ensures.last e))
    (λ e. end_of _ _ _ (c.next_put-b.ensures.last e)) in
    rw c.apart.ensures.apart (sym told)

pub returns-clause-apart : goal.returns-clause-apart
returns-clause-apart c =
    sym (c.loop-number.invariant.left ∙ apart_end c.args.one.now.scenario c.args.other.now.scenario (c.loop-number.number + 1) c.args.steps
    _ _
    (omega (arith, c.loop-number-test.false, c.loop-number.invariant.past))
    (omega (arith, c.loop-number-test.false, c.loop-number.invariant.other_past)))
